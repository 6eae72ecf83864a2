-- What a line asks for.
use Rattle.std.specs.Prelude.{◌≡◌, ℕ, cond, ◌&&◌, List, [], length, drop, Some, None, codes, Option, Result, MatchResult, ◌==◌, nat_le, slice_index, slice_index_or}
use Prim.Native.String.{String}
use Rattle.std.specs.Option.{option_map, option_zip}
use Rattle.refusal.specs.declared.Refusal.{Refusal}
use Rattle.refusal.specs.declared.Refusal.TheVariants.{MalformedLine}
use Rattle.command.specs.declared.Command.{Command}
use Rattle.command.specs.declared.Command.TheVariants.{Add, Tie, Delete, Find, Share, List as ListOf}
use Rattle.command.specs.Fields.{fields}
use Rattle.command.specs.Numbers.{number_read}

-- a command, with its words as lists of bytes
pub data Asked : Type 0 where
  add : List ℕ → List ℕ → ℕ → ℕ → Asked
  tie : List ℕ → List ℕ → ℕ → ℕ → Asked
  delete : List ℕ → List ℕ → ℕ → Asked
  find : List ℕ → List ℕ → ℕ → Asked
  share : List ℕ → List ℕ → ℕ → Asked
  list : List ℕ → ℕ → Asked

-- what a command of the code says
abbrev pub seen : Command → Asked
seen (Add words count) = add words.x.now words.y.now words.relation count
seen (Tie words count) = tie words.x.now words.y.now words.relation count
seen (Delete words) = delete words.x.now words.y.now words.relation
seen (Find words) = find words.x.now words.y.now words.relation
seen (Share words) = share words.x.now words.y.now words.relation
seen (ListOf x relation) = list x.now relation

-- the field at a place, counted from 0
abbrev pub field : List (List ℕ) → ℕ → List ℕ
field fs i = slice_index_or fs i []

-- two fields: X and a relation
abbrev pub word_fields : List (List ℕ) → Option (List ℕ × ℕ)
word_fields fs = cond (length fs == 2) (option_map (λ q. (field fs 0, q)) (number_read 255 (field fs 1))) None

-- three fields: X, Y and a relation
abbrev pub pair_fields : List (List ℕ) → Option (List ℕ × List ℕ × ℕ)
pair_fields fs = cond (length fs == 3)
    (option_map (λ q. (field fs 0, field fs 1, q)) (number_read 255 (field fs 2))) None

-- four fields: X, Y, a relation and a count
abbrev pub count_fields : List (List ℕ) → Option (List ℕ × List ℕ × ℕ × ℕ)
count_fields fs =
    cond (length fs == 4)
    (option_map (λ n. (field fs 0, field fs 1, n.0, n.1))
    (option_zip (number_read 255 (field fs 2)) (number_read 4294967295 (field fs 3))))
    None

-- an add and a tie, by their fields
abbrev pub add_asked : List (List ℕ) → Option Asked
add_asked fs = option_map (λ p. add p.0 p.1 p.2 p.3) (count_fields fs)

abbrev pub tie_asked : List (List ℕ) → Option Asked
tie_asked fs = option_map (λ p. tie p.0 p.1 p.2 p.3) (count_fields fs)

-- the byte of a letter
abbrev pub letter : String → ℕ
letter text = slice_index (codes text) 0

-- what a letter with its fields asks for
abbrev pub letter_asks : ℕ → List (List ℕ) → Option Asked
letter_asks l fs =
    cond (l == (letter "A")) (add_asked fs)
    (cond (l == (letter "T")) (tie_asked fs)
    (cond (l == (letter "D")) (option_map (λ p. delete p.0 p.1 p.2) (pair_fields fs))
    (cond (l == (letter "F")) (option_map (λ p. find p.0 p.1 p.2) (pair_fields fs))
    (cond (l == (letter "S")) (option_map (λ p. share p.0 p.1 p.2) (pair_fields fs))
    (cond (l == (letter "L")) (option_map (λ p. list p.0 p.1) (word_fields fs))
    None)))))

-- what a line asks for: it has at most 127 bytes, a letter, a tab and the fields
abbrev pub asked_by : List ℕ → Option Asked
asked_by line = cond (nat_le (length line) 127 && slice_index line 1 == 9)
    (letter_asks (slice_index line 0) (fields (drop 2 line))) None

-- a line was read as the command that it is, or it is none and malformed
abbrev pub IsParsed : List ℕ → Result Command Refusal → Type 0
IsParsed line r =
    MatchResult r (λ c. asked_by line ≡ Some (seen c)) (λ e. (e ≡ MalformedLine) × (asked_by line ≡ None))
