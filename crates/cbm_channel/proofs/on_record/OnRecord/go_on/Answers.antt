use Rattle.std.proofs.Common.{◌≡◌, ◌+◌, ◌-◌, refl, sym, ap, ◌∙◌, arith}
use Rattle.std.specs.Prelude.{slice_get}
use Rattle.cbm_channel.specs.Placed.{Placed}
use Rattle.cbm_file.specs.Files.{Records, file_at}
use Rattle.cbm_channel.proofs.OnRecords.{waits_is}
use Rattle.cbm_channel.proofs.on_record.OnRecord.go_on.Goals as goal

-- on a disk that the medium holds the next record reads
pub returns-in_err-next-clause-well : goal.returns-in_err-next-clause-well
returns-in_err-next-clause-well c = λ now reads d f b s rs h at shut is. absurd (rw c.in_err-next.was at (reads d f c.args.self.now.width b s rs h at is))

pub returns-clause-well : goal.returns-clause-well
returns-clause-well c = λ now reads d f b s rs h at shut is.
    let slot = ap (λ (r : Placed). r.slot) c.self.view_is in
    let width = ap (λ (r : Placed). r.width) c.self.view_is in
    let number = ap (λ (r : Placed). r.number) c.self.view_is in
    let afterwards : c.args.self.now.number ≡ c.self.inside.number + 1 - 1 = omega (arith, number) in
    let read = rw c.in_ok-next.was at (reads d f c.args.self.now.width b s rs h at is) in (
      refl,
      record {
        file = f;
        in_slot = ap (file_at d) slot ∙ at;
        closed = shut;
        records = rs;
        blocks = b;
        sides = s;
        body = is ∙ ap (λ w. Records w rs b s) (sym width);
        waits = waits_is c.self.inside.length b s (c.self.inside.number + 1) rs _ (λ z. omega (arith, z)) (c.waiting_of-self-inside.ensures.same ∙ read ∙ ap (slice_get rs) afterwards) c.waiting_of-self-inside.ensures.whole;
      },
    )
