use Rattle.std.proofs.Common.{sym, ap, ◌∙◌, refl}
use Rattle.cbm_channel.specs.Placed.{Placed}
use Rattle.cbm_file.specs.Files.{Records, file_at}
use Rattle.cbm_channel.proofs.on_record.OnRecord.go.Goals as goal

-- the file has records
pub returns-in_err-self-inside-clause-well : goal.returns-in_err-self-inside-clause-well
returns-in_err-self-inside-clause-well g c = λ d f b s rs h at shut is.
    let slot = ap (λ (r : Placed). r.slot) c.self.view_is in
    absurd (c.in_err-self-inside.ensures.means d f c.args.self.now.width b s rs h (ap (file_at d) slot ∙ at) is)

pub returns-clause-well : goal.returns-clause-well
returns-clause-well g c = λ d f b s rs h at shut is.
    let slot = ap (λ (r : Placed). r.slot) c.self.view_is in
    let width = ap (λ (r : Placed). r.width) c.self.view_is in
    let there = ap (file_at d) slot ∙ at in
    let body = is ∙ ap (λ w. Records w rs b s) (sym width) in (
      refl,
      record {
        file = f;
        in_slot = there;
        closed = shut;
        records = rs;
        blocks = b;
        sides = s;
        body = body;
        waits = c.in_ok-self-inside.ensures.means d f _ b s rs h there body;
      },
    )
