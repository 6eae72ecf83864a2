-- What a refusal's parts mean to the library's interfaces: how a report is printed, and what a fault becomes by `?`.
use Rattle.std.specs.Prelude.{◌≡◌, Some, ◌↔◌}
use Rattle.script.specs.declared.SpellFault.{SpellFault}
use Rattle.lexicon.specs.declared.ListFault.{ListFault}
use Rattle.link_table.specs.declared.faults.LinkFault.{LinkFault}
use Rattle.refusal.specs.declared.Side.{Side}
use Rattle.refusal.specs.declared.Side.TheVariants.{Neither}
use Rattle.refusal.specs.declared.Refusal.{Refusal}
use Rattle.refusal.specs.declared.Report.{Report}
use Rattle.refusal.specs.Reports.{report_text, side_text, spell_refusal, list_refusal, link_refusal}
use Rattle.refusal.specs.contracts.ReportDisplay.TheImpl.{ghosts as reports}
use Rattle.refusal.specs.contracts.SideDisplay.TheImpl.{ghosts as sides}
use Rattle.refusal.specs.contracts.RefusalFromSpellFault.TheImpl.{ghosts as from_spelling}
use Rattle.refusal.specs.contracts.RefusalFromListFault.TheImpl.{ghosts as from_list}
use Rattle.refusal.specs.contracts.RefusalFromLinkFault.TheImpl.{ghosts as from_table}

-- a report and a side are printed by their texts
pub record Printed : Type 0 where
  pub report : (r : Report) → reports.output r ≡ Some (report_text r)
  pub side : (s : Side) → sides.output s ≡ Some (side_text s)

-- what a conversion by `From` gives is that function of it
abbrev pub Gives : {A B : Type 0} → (A → B → Type 0) → (A → B) → Type 0
Gives {A} {B} gives f = (a : A) (b : B) → gives a b ↔ (b ≡ f a)

-- a fault becomes the refusal of no side
pub record PassedUp : Type 0 where
  pub spelling : Gives from_spelling.from_gives (λ (f : SpellFault). spell_refusal f Neither)
  pub list : Gives from_list.from_gives (λ (f : ListFault). list_refusal f Neither)
  pub table : Gives from_table.from_gives link_refusal
