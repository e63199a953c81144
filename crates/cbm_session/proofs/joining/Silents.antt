-- What a talker does that has nothing to say, at either pace.
use Rattle.std.proofs.Common.{ℕ, ◌+◌, ◌≤◌, ◌<◌, arith}
use Rattle.cbm_iec.specs.declared.pace.Pace.TheVariants.{Profile, Kernal}
use Rattle.cbm_iec.specs.declared.pace.Pace.{Pace}
use Rattle.cbm_iec.specs.declared.party.Party.{Party}
use Rattle.cbm_session.proofs.joining.Merging.{NoneBefore, AllBefore, InOrder}
use Rattle.cbm_session.specs.Joins.{NotBefore}
use Rattle.cbm_session.specs.Pieces.{silent_part, silent_at, silent_end}

pub silent_late : (e : Pace) (t : ℕ) → t ≤ silent_at e t
silent_late Profile t = omega arith
silent_late Kernal t = omega arith

-- it ends a reaction after CLOCK's release, or later
pub silent_from : (b : Party) (clock : ℕ) → clock + b.reaction ≤ silent_end b clock
silent_from b clock = silent_late b.pace (clock + b.reaction)

pub silent_order : (e : Pace) (d t : ℕ) → InOrder (silent_part e d t)
silent_order Profile d t = (tt, tt)
silent_order Kernal d t = ((omega arith, (omega arith, tt)), ((omega arith, tt), (tt, tt)))

pub silent_head : (e : Pace) (d m t : ℕ) → m ≤ t → NotBefore m (silent_part e d t)
silent_head Profile d m t h = omega (arith, h)
silent_head Kernal d m t h = omega (arith, h)

pub silent_none : (e : Pace) (d m t : ℕ) → m ≤ t → NoneBefore m (silent_part e d t)
silent_none Profile d m t h = (h, tt)
silent_none Kernal d m t h = (h, (omega (arith, h), (omega (arith, h), tt)))

pub silent_before : (e : Pace) (d m t : ℕ) → silent_at e t < m → AllBefore m (silent_part e d t)
silent_before Profile d m t h = (h, tt)
silent_before Kernal d m t h = (omega (arith, h), (h, (h, tt)))
