-- What find replies, as it is printed, and what commands say.
use Rattle.std.proofs.Common.{◌≡◌, ℕ, List, Some, Ok, Err, Option, Result, sym, refl, subst}
use Rattle.refusal.specs.declared.Refusal.{Refusal}
use Rattle.record.specs.declared.Tally.{Tally}
use Rattle.history.specs.declared.replies.Link.{Link}
use Rattle.history.specs.declared.replies.Reply.TheVariants.{Found}
use Rattle.history.specs.Calls.{replied}
use Rattle.command.specs.declared.Command.{Command}
use Rattle.command.specs.Commands.{seen}
use Rattle.lines.specs.Lines.{Store, Carried, found_line, found_text}

pub found_said : (records : List Tally) (m : Result (Option Link) Refusal) → found_text records (replied Found m) ≡ found_line records m
found_said records (Ok o) = refl
found_said records (Err f) = refl

-- what is carried out of what a command says is carried out of the command
pub by_command : (s : Store) (given : Command) (said : Command) (text : List ℕ) (t : Store) → given ≡ said → Carried s (Some (seen said)) text t → Carried s (Some (seen given)) text t
by_command s given said text t e h = subst (λ (z : Command). Carried s (Some (seen z)) text t) (sym e) h
