use Rattle.std.proofs.Common.{◌≡◌, List, ℕ, inl, length, rules, subst, sym, ◌∙◌}
use Rattle.cbm_device.specs.ImageDisks.{IsImageIn}
use Rattle.yellowadze1541.specs.Plays.{Rooms, rooms}
use Rattle.yellowadze1541.proofs.Handing.{handed}
use Rattle.yellowadze1541.proofs.plays.told.Goals as goal

pub returns : goal.returns
returns c =
    let signals = c.as_slice.result.now in
    let bytes = c.as_slice-2.result.now in
    let old : Rooms = rooms c.args.out.now c.args.count.now c.args.after.now c.args.needed.now in
    let new : Rooms = rooms c.hand_over.new.out c.len.result c.hand_over.new.after c.len-2.result in
    let count : c.len.result ≡ length signals = search rules in
    let needed : c.len-2.result ≡ length bytes = search rules in
    inl (
      bytes,
      subst (λ (xs : List ℕ). IsImageIn c.args.kind c.args.disk.now xs) (sym c.as_slice-2.ensures.value) c.in_ok-image.ensures.ok,
      handed c.hand_over.result c.args.events.now signals bytes old new (c.as_slice.ensures.value ∙ c.in_ok-signals.ensures.ok) count needed c.hand_over.ensures.events
          c.hand_over.ensures.image c.hand_over.ensures.err,
    )
