-- What the host does where it waited to no avail: it changes a line at that moment, or the request is over.
use Rattle.std.proofs.Common.{◌≡◌, ℕ, Option, Some, None, refl}
use Rattle.cbm_iec.specs.declared.lines.Change.{Change}
use Rattle.cbm_host.specs.Engines.{Engined, engine_due, engine_passed}
use Rattle.cbm_host.specs.Sending.{frame_change}
use Rattle.cbm_host.specs.Stages.{due_of, stage_due, take_due, stage_passed}
use Rattle.cbm_host.specs.declared.due.Due.{Due}
use Rattle.cbm_host.specs.declared.due.Due.TheVariants.{Makes, Waits, Hears, Over}
use Rattle.cbm_host.specs.declared.stage.Stage.{Stage}
use Rattle.cbm_host.specs.declared.stage.Stage.TheVariants.{Attending, Framing, Calling, Releasing, Turning, Taking, Ending, Done}
use Rattle.cbm_host.specs.declared.take.Take.{Take}
use Rattle.cbm_host.specs.declared.take.Take.TheVariants.{Awaiting, Freeing, Listening, Marking, Unmarking, Gathering, Accepting}

-- at that moment, or over then
abbrev pub IsPassed : ℕ → Due → Type 0
IsPassed until (Makes c) = c.moment ≡ until
IsPassed until (Waits t) = ⊥
IsPassed until Hears = ⊥
IsPassed until (Over at) = at ≡ until

no_wait : (o : Option Change) (until : ℕ) → due_of o ≡ Waits until → ⊥
no_wait None until e = cc
no_wait (Some c) until e = cc

by_take : (take : Take) (until : ℕ) → take_due take ≡ Waits until → IsPassed until (stage_due (stage_passed (Taking take)))
by_take (Listening t) until e = cc
by_take Awaiting until e = absurd cc
by_take (Freeing at) until e = absurd cc
by_take (Marking at) until e = absurd cc
by_take (Unmarking at) until e = absurd cc
by_take (Gathering c) until e = absurd cc
by_take (Accepting at byte last) until e = absurd cc

by_stage : (stage : Stage) (until : ℕ) → stage_due stage ≡ Waits until → IsPassed until (stage_due (stage_passed stage))
by_stage (Turning t) until e = cc
by_stage (Ending t) until e = cc
by_stage (Taking take) until e = by_take take until e
by_stage (Framing frame afterwards) until e = absurd (no_wait (frame_change frame) until e)
by_stage (Attending at p a) until e = absurd cc
by_stage (Calling at) until e = absurd cc
by_stage (Releasing at r) until e = absurd cc
by_stage (Done at) until e = absurd cc

pub passed_due : (e : Engined) (until : ℕ) → engine_due e ≡ Waits until → IsPassed until (engine_due (engine_passed e))
passed_due e until due = by_stage e.stage until due

-- where it changes no line it is over
pub passed_over : (e : Engined) (until : ℕ) → engine_due e ≡ Waits until → ((c : Change) → engine_due (engine_passed e) ≡ Makes c → ⊥) → engine_due (engine_passed e) ≡ Over until
passed_over e until due none = by_due (engine_due (engine_passed e)) (passed_due e until due) none
  where
    by_due : (d : Due) → IsPassed until d → ((c : Change) → d ≡ Makes c → ⊥) → d ≡ Over until
    by_due (Makes c) h n = absurd (n c refl)
    by_due (Waits t) h n = elim h [ ]
    by_due Hears h n = elim h [ ]
    by_due (Over at) h n = cc
