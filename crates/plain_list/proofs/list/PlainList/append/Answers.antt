use Rattle.std.proofs.Common.{◌≡◌, ℕ, ◌+◌, length, take, set, vec_items, sym, ap, ◌∙◌, subst, arith}
use Rattle.lexicon.specs.Rolls.{Sized, Distinct}
use Rattle.lexicon.proofs.Numbers.{lawful_push}
use Rattle.output.specs.Written.{written}
use Rattle.plain_list.specs.Cuts.{cut}
use Rattle.plain_list.specs.Plain.{roll_of}
use Rattle.plain_list.proofs.Lists.{length_roll, bytes_roll, roll_lawful, New, new_facts, more_bytes, more_sum, more_roll}
use Rattle.plain_list.proofs.list.PlainList.append.Goals as goal

pub invariant_of-self : goal.invariant_of-self
invariant_of-self c =
    let s = c.args.self.now in
    let w = c.args.word.now in
    let new : New s w = new_facts s w c.requires in
    let long : length c.write_at.new.out ≡ s.bytes.len = omega (arith, c.write_at.auto.out, c.as_mut_slice.ensures.len) in
    let bytes = more_bytes s w new c.write_at.new.out c.as_mut_slice.result.now long c.as_mut_slice.ensures.value c.write_at.ensures.after in
    let roll = ap (cut (take (s.count + 1) (set (vec_items s.lengths) s.count (length w)))) bytes ∙ more_roll s w new in
    let lawful = lawful_push (roll_of s) w (roll_lawful s) (omega (arith, new.few, length_roll s)) new.sized new.absent in
    record {
      within = omega (arith, new.place);
      ended = more_sum s w new;
      inside = omega (arith, new.fits);
      short = new.short;
      few = omega (arith, new.few);
      sized = subst Sized (sym roll) lawful.sized;
      apart = subst Distinct (sym roll) lawful.apart;
    }

pub index_mut-requires : goal.index_mut-requires
index_mut-requires c = (new_facts c.args.self.now c.args.word.now c.requires).place

pub returns : goal.returns
returns c =
    let s = c.args.self.now in
    let w = c.args.word.now in
    let new : New s w = new_facts s w c.requires in
    let long : length c.write_at.new.out ≡ s.bytes.len = omega (arith, c.write_at.auto.out, c.as_mut_slice.ensures.len) in
    let bytes = more_bytes s w new c.write_at.new.out c.as_mut_slice.result.now long c.as_mut_slice.ensures.value c.write_at.ensures.after in
    record {
      arrays = record {
        bytes_after = bytes ∙ ap (λ (u : ℕ). written (vec_items s.bytes) u w) (sym (bytes_roll s));
        lengths_after = ap (λ (n : ℕ). set (vec_items s.lengths) n (length w)) (sym (length_roll s));
      };
      roll = ap (cut (take (s.count + 1) (set (vec_items s.lengths) s.count (length w)))) bytes ∙ more_roll s w new;
    }
