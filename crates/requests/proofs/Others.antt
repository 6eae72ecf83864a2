-- The rules of the calls but add say nothing of a list that grows.
use Rattle.std.proofs.Common.{◌≡◌, List, Result, sym, subst}
use Rattle.refusal.specs.declared.Refusal.{Refusal}
use Rattle.listing.specs.declared.row.LinkRow.{LinkRow}
use Rattle.history.specs.declared.replies.Reply.{Reply}
use Rattle.lexicon.specs.Growths.{Growth, no_growth}
use Rattle.history.specs.Kits.{Kit, State}
use Rattle.history.specs.Calls.{Steps}
use Rattle.requests.specs.declared.request.Request.{Request}
use Rattle.requests.specs.declared.request.Request.TheVariants.{Tie, Delete, Find, Read, Change, List as ListOf, Figures}
use Rattle.requests.specs.declared.request.GrowingRequest.{GrowingRequest}
use Rattle.requests.specs.declared.request.GrowingRequest.TheVariants.{Other}
use Rattle.requests.specs.Requests.{call_of, growing_call_of}

module _ {S L R : Type 0} (K : Kit S L R) (G : Growth L) where
  any_list : (request : Request S R) (s : State L R) (out : List LinkRow) (n : Result (Reply R) Refusal) (t : State L R) (out' : List LinkRow)
      → Steps K no_growth s out (call_of request) n t out' → Steps K G s out (call_of request) n t out'
  any_list (Tie words r) s out n t out' h = h
  any_list (Delete words) s out n t out' h = h
  any_list (Find words) s out n t out' h = h
  any_list (Read u) s out n t out' h = h
  any_list (Change u r) s out n t out' h = h
  any_list (ListOf x q) s out n t out' h = h
  any_list Figures s out n t out' h = h

  pub other_steps : (growing : GrowingRequest S R) (request : Request S R) → growing ≡ Other request → (s : State L R) (out : List LinkRow) (n : Result (Reply R) Refusal) (t : State L R) (out' : List LinkRow)
      → Steps K no_growth s out (call_of request) n t out' → Steps K G s out (growing_call_of growing) n t out'
  other_steps growing request is s out n t out' h = subst (λ (z : GrowingRequest S R). Steps K G s out (growing_call_of z) n t out') (sym is) (any_list request s out n t out' h)
