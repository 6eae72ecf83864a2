-- What a line does to a store of tallies over a trie list of byte text, and what is printed.
use Rattle.std.specs.Prelude.{◌≡◌, ℕ, cond, List, map, length, take, Some, None, Ok, Err, codes, Option, Result, nat_le}
use Rattle.refusal.specs.declared.Refusal.{Refusal}
use Rattle.refusal.specs.declared.Refusal.TheVariants.{MalformedLine, OutputTooShort}
use Rattle.refusal.specs.Reports.{report_of}
use Rattle.output.specs.Written.{written}
use Rattle.script.specs.contracts.alphabets.U8Script.TheImpl.{ghosts as byte_text}
use Rattle.record.specs.declared.Tally.{Tally}
use Rattle.record.specs.contracts.TallyRecord.TheImpl.{ghosts as tally_record}
use Rattle.trie_list.specs.declared.list.TrieList.{TrieList}
use Rattle.trie_list.specs.contracts.calls.TrieListReadableList.TheImpl.{ghosts as readable}
use Rattle.trie_list.specs.contracts.calls.TrieListGrowingList.TheImpl.{ghosts as growing}
use Rattle.listing.specs.declared.row.LinkRow.{LinkRow}
use Rattle.history.specs.declared.replies.Link.{Link}
use Rattle.history.specs.declared.replies.Reply.{Reply}
use Rattle.history.specs.declared.replies.Reply.TheVariants.{Linked, Deleted, Found, Read, Changed, Listed, Counted}
use Rattle.lexicon.specs.Growths.{Growth}
use Rattle.history.specs.Kits.{Kit, kit_of, State}
use Rattle.history.specs.Calls.{Call, Steps, find_of, refusal_of_list, rows_in}
use Rattle.history.specs.Calls as call
use Rattle.history.specs.Laws.{Onward}
use Rattle.share.specs.Laws.{ShareLaw}
use Rattle.share.specs.Shares.{count_at, share_in}
use Rattle.command.specs.Commands.{Asked, asked_by, add, tie, delete, find, share, list}
use Rattle.line_text.specs.declared.rows.LineRow.{LineRow}
use Rattle.line_text.specs.Texts.{number_text, three_text, rows_text, report_line}

-- what byte text, a trie list and tallies mean to a store
abbrev pub trie_tally_kit : Kit ℕ TrieList Tally
trie_tally_kit = kit_of byte_text readable tally_record

-- how a trie list grows
abbrev pub trie_growth : Growth TrieList
trie_growth = record { room = growing.room; enters = growing.enters }

-- the stores that lines work on
abbrev pub Store : Type 0
Store = State TrieList Tally

-- a tally of a count
abbrev pub tally : ℕ → Tally
tally c = record { count = c }

-- what is printed of a refusal
abbrev pub refused_text : Refusal → List ℕ
refused_text f = report_line (report_of f)

-- what is printed of a call that is only said to be done
abbrev pub done_line : {A : Type 0} → Result A Refusal → List ℕ
done_line (Ok v) = codes "ok\n"
done_line (Err f) = refused_text f

-- what is printed of a link that was sought: both word numbers and the count
abbrev pub found_line : List Tally → Result (Option Link) Refusal → List ℕ
found_line records (Ok None) = codes "none\n"
found_line records (Ok (Some link)) = three_text link.x link.y (count_at records link.number)
found_line records (Err f) = refused_text f

-- the same of what find replies
abbrev pub found_text : List Tally → Result (Reply Tally) Refusal → List ℕ
found_text records (Ok (Linked link)) = codes "none\n"
found_text records (Ok (Deleted u)) = codes "none\n"
found_text records (Ok (Found link)) = found_line records (Ok link)
found_text records (Ok (Read reading)) = codes "none\n"
found_text records (Ok Changed) = codes "none\n"
found_text records (Ok (Listed k)) = codes "none\n"
found_text records (Ok (Counted pair)) = codes "none\n"
found_text records (Err f) = refused_text f

-- a row with the count of its link
abbrev pub row_of : List Tally → LinkRow → LineRow
row_of records row = record { relation = row.relation; y = row.y; count = count_at records row.link }

-- what is printed of a listing, unless a refusal applies
abbrev pub listing_line : Option Refusal → List LineRow → List ℕ
listing_line None rows = rows_text rows
listing_line (Some f) rows = refused_text f

-- the same of what list replies, with the output that it wrote
abbrev pub listed_text : List Tally → List LinkRow → Result (Reply Tally) Refusal → List ℕ
listed_text records rows (Ok (Linked link)) = codes "none\n"
listed_text records rows (Ok (Deleted u)) = codes "none\n"
listed_text records rows (Ok (Found link)) = codes "none\n"
listed_text records rows (Ok (Read reading)) = codes "none\n"
listed_text records rows (Ok Changed) = codes "none\n"
listed_text records rows (Ok (Listed k)) = cond (nat_le k 100) (rows_text (map (row_of records) (take k rows)))
    (codes "none\n")
listed_text records rows (Ok (Counted pair)) = codes "none\n"
listed_text records rows (Err f) = refused_text f

-- what is printed of a share
abbrev pub share_line : Result ℕ Refusal → List ℕ
share_line (Ok millionths) = number_text millionths 10
share_line (Err f) = refused_text f

-- the call was made in s by its rule, answered n and left t; and of every history that led to s it leads on to one that
-- leads to t, of which the law holds
abbrev pub MakesCall : Store → Call ℕ Tally → Result (Reply Tally) Refusal → Store → Type 0
MakesCall s c n t =
    ((out out' : List LinkRow) × Steps trie_tally_kit trie_growth s out c n t out') × Onward trie_tally_kit s c n t

-- the call was made, and `text` says that it is done or refused
abbrev pub SaidDone : Store → Call ℕ Tally → List ℕ → Store → Type 0
SaidDone s c text t = (n : Result (Reply Tally) Refusal) × MakesCall s c n t × (text ≡ done_line n)

-- a share was answered in s by its rule, it is the share in the counts of the triples that are present after every
-- history that led to s, and `text` is printed
abbrev pub Shared : Store → List ℕ → List ℕ → ℕ → List ℕ → Type 0
Shared s x y q text =
    (n : Result ℕ Refusal) × (n ≡ share_in trie_tally_kit s x y q)
    × ShareLaw trie_tally_kit s x y q n × (text ≡ share_line n)

-- the line that asks for this was carried out in s, left t, and `text` is printed
abbrev pub Carried : Store → Option Asked → List ℕ → Store → Type 0
Carried s None text t = (text ≡ refused_text MalformedLine) × (t ≡ s)
Carried s (Some (add x y q c)) text t = SaidDone s (call.add x y q (tally c)) text t
Carried s (Some (tie x y q c)) text t = SaidDone s (call.tie x y q (tally c)) text t
Carried s (Some (delete x y q)) text t = SaidDone s (call.delete x y q) text t
Carried s (Some (find x y q)) text t =
    ((n : Result (Reply Tally) Refusal) × MakesCall s (call.find x y q) n t)
    × (text ≡ found_line s.records (find_of trie_tally_kit s.list s.table x y q)) × (t ≡ s)
Carried s (Some (list x q)) text t =
    ((n : Result (Reply Tally) Refusal) × MakesCall s (call.list x q) n t)
    × (text ≡ listing_line (refusal_of_list trie_tally_kit s.list s.table x q 100)
    (map (row_of s.records) (rows_in trie_tally_kit s.list s.table x q)))
    × (t ≡ s)
Carried s (Some (share x y q)) text t = Shared s x y q text × (t ≡ s)

-- an output that is too short for every text was refused, and store and output are as they were
abbrev pub RefusedShort : Store → List ℕ → Result ℕ Refusal → Store → List ℕ → Type 0
RefusedShort s out r t out' = (r ≡ Err OutputTooShort) × (out' ≡ out) × (t ≡ s)

-- a line was carried out, and what is printed was written to the output from its start
abbrev pub CarriedOut : Store → List ℕ → List ℕ → Result ℕ Refusal → Store → List ℕ → Type 0
CarriedOut s line out r t out' =
    (text : List ℕ) × Carried s (asked_by line) text t × (r ≡ Ok (length text)) × (out' ≡ written out 0 text)
