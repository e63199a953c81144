use Rattle.std.proofs.Common.{◌≡◌, ◌∙◌, sym, ap, arith, List, ℕ, Bool, Option, Some, ◌+◌, ◌*◌, ◌↔◌, ◌<◌, ◌++◌, length, refl, take, drop, rules}
use Rattle.std.proofs.lemmas.List.{places}
use Rattle.std.specs.Prelude.{IfSome}
use Rattle.cbm_gcr.specs.Code.{code, bits_of, IsFourBytes}
use Rattle.cbm_track.specs.Circle.{stretch}
use Rattle.cbm_sector.specs.Decoding.{coded_at}
use Rattle.cbm_sector.proofs.Stands.{coded_is}
use Rattle.cbm_sector.proofs.Reading.{coded_no_front, coded_no_rest, coded_join, coded_none_yet, front_more, group_there}
use Rattle.cbm_sector.proofs.group.block_bytes.Goals as goal

part : (t : List Bool) (p i : ℕ) (xs : List ℕ) (o : Option (List ℕ)) → i < 65 → bits_of xs ≡ stretch t p 2600
    → ((v : List ℕ) → IsFourBytes v → ((o ≡ Some v) ↔ (code v ≡ take 40 (drop (8 * (5 * i)) (bits_of xs))))) → IfSome o IsFourBytes → o ≡ coded_at t (p + 10 * (4 * i)) 4
part t p i xs o h e value block = group_there t p xs (5 * i) 2600 o e (omega arith) value block ∙ (let q : p + 8 * (5 * i) ≡ p + 10 * (4 * i) = omega arith in ap (λ (r : ℕ). coded_at t r 4) q)

pub loop-i-init : goal.loop-i-init
loop-i-init c = record { length = refl; read = coded_none_yet c.args.track.now c.args.place }

pub returns-in_err-group : goal.returns-in_err-group
returns-in_err-group c = c.from_residual.ensures ∙ sym (coded_no_front c.args.track.now c.args.place (4 * c.loop-i.i + 4) 260 (omega arith)
    (coded_no_rest c.args.track.now c.args.place (4 * c.loop-i.i) 4
    (sym (part c.args.track.now c.args.place c.loop-i.i c.bytes_at.new.out c.group_in.result (omega arith) c.bytes_at.ensures c.group_in.ensures.value c.group_in.ensures.block) ∙ c.in_err-group.was)))

pub loop-i-preserved : goal.loop-i-preserved
loop-i-preserved c =
    let t = c.args.track.now in
    let a : coded_at t (c.args.place + 10 * (4 * c.loop-i.i)) 4 ≡ Some c.in_ok-group.group =
    sym (part t c.args.place c.loop-i.i c.bytes_at.new.out c.group_in.result (omega arith) c.bytes_at.ensures c.group_in.ensures.value c.group_in.ensures.block) ∙ c.in_ok-group.was in
    record {
      length = search (rules, places);
      read = ap (coded_at t c.args.place) (omega arith) ∙ coded_join t c.args.place (4 * c.loop-i.i) 4 (take (4 * c.loop-i.i) c.loop-i.block) c.in_ok-group.group c.loop-i.invariant.read a
          ∙ ap (λ (v : List ℕ). Some (take (4 * c.loop-i.i) c.loop-i.block ++ v)) (sym c.copy_from_slice.ensures.after)
          ∙ ap Some (sym (front_more c.loop-i.block c.copy_from_slice.new.self (4 * c.loop-i.i) _ (4 * (c.loop-i.i + 1)) (omega (arith, c.loop-i.invariant.length)) (omega (arith, ap length c.copy_from_slice.ensures.after, (coded_is t _ 4 c.in_ok-group.group a).0))));
    }
