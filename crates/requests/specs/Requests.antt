-- The calls that requests make.
use Rattle.history.specs.Calls.{Call, add, tie, delete, find, read, change, list, figures}
use Rattle.requests.specs.declared.request.Request.{Request}
use Rattle.requests.specs.declared.request.Request.TheVariants.{Tie, Delete, Find, Read, Change, List, Figures}
use Rattle.requests.specs.declared.request.GrowingRequest.{GrowingRequest}
use Rattle.requests.specs.declared.request.GrowingRequest.TheVariants.{Add, Other}

-- the call that a request makes
abbrev pub call_of : {S R : Type 0} → Request S R → Call S R
call_of (Tie words r) = tie words.x.now words.y.now words.relation r
call_of (Delete words) = delete words.x.now words.y.now words.relation
call_of (Find words) = find words.x.now words.y.now words.relation
call_of (Read u) = read u
call_of (Change u r) = change u r
call_of (List x q) = list x.now q
call_of Figures = figures

-- the call that a request to a store whose list grows makes
abbrev pub growing_call_of : {S R : Type 0} → GrowingRequest S R → Call S R
growing_call_of (Add words r) = add words.x.now words.y.now words.relation r
growing_call_of (Other request) = call_of request
