-- What the host does next stays so, whatever the drive does before.
use Rattle.std.proofs.Common.{◌≡◌, ℕ, List, Option, Some, None}
use Rattle.cbm_iec.specs.Ports.{change_at}
use Rattle.cbm_iec.specs.declared.lines.Change.{Change}
use Rattle.cbm_iec.specs.declared.lines.Line.TheVariants.{Atn, Clock, Data}
use Rattle.cbm_iec.specs.declared.lines.Line.{Line}
use Rattle.cbm_iec.specs.declared.lines.Way.TheVariants.{Pull, Free}
use Rattle.cbm_iec.specs.declared.lines.Way.{Way}
use Rattle.cbm_host.specs.Engines.{Engined, engine_due, engine_seen}
use Rattle.cbm_host.specs.Performers.{IsHandedOn}
use Rattle.cbm_host.specs.Sending.{frame_change}
use Rattle.cbm_host.specs.Stages.{due_of, stage_due, take_due}
use Rattle.cbm_host.specs.declared.due.Due.TheVariants.{Makes}
use Rattle.cbm_host.specs.declared.frame.Frame.{Frame}
use Rattle.cbm_host.specs.declared.frame.Frame.TheVariants.{Readying, Ready, EoiSent, EoiHeard, Starting, Setting, Showing, Hiding, Clearing, Sent}
use Rattle.cbm_host.specs.declared.stage.Afterwards.{Afterwards}
use Rattle.cbm_host.specs.declared.stage.Stage.{Stage}
use Rattle.cbm_host.specs.declared.stage.Stage.TheVariants.{Attending, Framing, Calling, Releasing, Turning, Taking, Ending, Done}
use Rattle.cbm_host.specs.declared.take.Take.{Take}
use Rattle.cbm_host.specs.declared.take.Take.TheVariants.{Awaiting, Freeing, Listening, Marking, Unmarking, Gathering, Accepting}

module _ (left : List ℕ) (most : ℕ) (c : Change) (t : ℕ) where
  abbrev seen : Line → Way → Stage → Engined
  seen line way stage = engine_seen (change_at t line way) (record { stage = stage; left = left; most = most })

  frame_kept : (line : Line) (way : Way) (frame : Frame) (afterwards : Afterwards) → due_of (frame_change frame) ≡ Makes c → engine_due (seen line way (Framing frame afterwards)) ≡ Makes c
  frame_kept Atn way frame afterwards h = h
  frame_kept Clock way frame afterwards h = h
  frame_kept Data way (Ready byte eoi) afterwards h = absurd cc
  frame_kept Data way (EoiSent byte) afterwards h = absurd cc
  frame_kept Data way (EoiHeard byte) afterwards h = absurd cc
  frame_kept Data way Sent afterwards h = absurd cc
  frame_kept Data Pull (Readying at byte eoi) afterwards h = h
  frame_kept Data Pull (Starting at byte) afterwards h = h
  frame_kept Data Pull (Setting at b) afterwards h = h
  frame_kept Data Pull (Showing at b) afterwards h = h
  frame_kept Data Pull (Hiding at b) afterwards h = h
  frame_kept Data Pull (Clearing at) afterwards h = h
  frame_kept Data Free (Readying at byte eoi) afterwards h = h
  frame_kept Data Free (Starting at byte) afterwards h = h
  frame_kept Data Free (Setting at b) afterwards h = h
  frame_kept Data Free (Showing at b) afterwards h = h
  frame_kept Data Free (Hiding at b) afterwards h = h
  frame_kept Data Free (Clearing at) afterwards h = h

  take_kept : (line : Line) (way : Way) (take : Take) → take_due take ≡ Makes c → engine_due (seen line way (Taking take)) ≡ Makes c
  take_kept line way Awaiting h = absurd cc
  take_kept line way (Listening until) h = absurd cc
  take_kept line way (Gathering came) h = absurd cc
  take_kept Atn way (Freeing at) h = h
  take_kept Atn way (Marking at) h = h
  take_kept Atn way (Unmarking at) h = h
  take_kept Atn way (Accepting at byte last) h = h
  take_kept Clock Pull (Freeing at) h = h
  take_kept Clock Pull (Marking at) h = h
  take_kept Clock Pull (Unmarking at) h = h
  take_kept Clock Pull (Accepting at byte last) h = h
  take_kept Clock Free (Freeing at) h = h
  take_kept Clock Free (Marking at) h = h
  take_kept Clock Free (Unmarking at) h = h
  take_kept Clock Free (Accepting at byte last) h = h
  take_kept Data Pull (Freeing at) h = h
  take_kept Data Free (Freeing at) h = h
  take_kept Data way (Marking at) h = h
  take_kept Data way (Unmarking at) h = h
  take_kept Data way (Accepting at byte last) h = h

  due_kept : (line : Line) (way : Way) (stage : Stage) → stage_due stage ≡ Makes c → engine_due (seen line way stage) ≡ Makes c
  due_kept line way (Attending at p a) h = h
  due_kept line way (Framing frame afterwards) h = frame_kept line way frame afterwards h
  due_kept line way (Calling at) h = h
  due_kept line way (Releasing at r) h = h
  due_kept line way (Turning until) h = absurd cc
  due_kept line way (Taking take) h = take_kept line way take h
  due_kept line way (Ending until) h = absurd cc
  due_kept line way (Done at) h = absurd cc

-- what waits in the player is handed on still
pub handed_on : (w : Option Change) (e : Engined) (c : Change) → IsHandedOn w e → IsHandedOn w (engine_seen c e)
handed_on None e c h = tt
handed_on (Some x) e c h = due_kept e.left e.most x c.moment c.line c.way e.stage h
