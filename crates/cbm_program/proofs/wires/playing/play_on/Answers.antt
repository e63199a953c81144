use Rattle.std.proofs.Common.{◌∙◌, ◌+◌, ap, length, Err, ℕ, refl, arith}
use Rattle.std.proofs.lemmas.Result.{err_from_is_err_and}
use Rattle.cbm_host.proofs.Hosting.{is_drive}
use Rattle.cbm_host.specs.Hosted.{party_of}
use Rattle.bus_traces.specs.Lines.{source_bytes_left}
use Rattle.cbm_program.specs.declared.wires.staging.Stage.{Stage}
use Rattle.cbm_program.proofs.LinePrints.{if_err}
use Rattle.cbm_program.proofs.OutputLemmas.{grows_none, grows_on, grows_kept}
use Rattle.cbm_program.proofs.Playing.{Loops, joined, timing_start, timing_skipped, timing_change, timing_begun, timing_ended, change_begun, end_begun, ended_part, ends_kept, after_faulted, read_faulted, wrote_read, wrote_after_it, wrote_ended}
use Rattle.cbm_program.proofs.Staging.{none_played}
use Rattle.cbm_program.proofs.wires.playing.play_on.Goals.{in-Skipped, in-Changes+in_ok-change-in-Changes+in_ok-flush-in-Changes}
use Rattle.cbm_program.proofs.wires.playing.play_on.Goals as goal

pub lines-init : goal.lines-init
lines-init g c = record {
  timing = λ input t. timing_start g.M.Medium.seen _ input _ c.args.stage.now.player c.args.stage.now.bus (none_played g.M.Medium.seen _ c.args.stage.now.player c.args.stage.now.player c.args.stage.now.bus c.args.stage.now.bus refl refl refl) t;
  opened = c.requires.open;
  small = omega arith;
  few = omega arith;
  tracks = refl;
  grown = grows_none _;
}

-- a line can't be had, or is refused
pub returns-in_err-read_timed-clause-ended : goal.returns-in_err-read_timed-clause-ended
returns-in_err-read_timed-clause-ended g c = λ input t.
    let p = err_from_is_err_and c.from_residual.result c.from_residual.ensures.1 in
    let seen = g.M.Medium.seen in
    read_faulted seen _ _ input (source_bytes_left g.R.Read.remaining c.lines.lines) (source_bytes_left g.R.Read.remaining c.read_timed.new.lines) c.lines.number c.lines.from (party_of c.args.pace c.args.device) c.from_residual.result _ _ c.args.stage.now.player c.lines.stage.player c.args.stage.now.bus c.lines.stage.bus
    (ap length c.lines.invariant.tracks ∙ c.requires.one) (c.lines.invariant.timing input t) c.lines.invariant.opened c.in_err-read_timed.ensures (p.1 ∙ ap Err p.2)

pub returns-in_err-read_timed-clause-fault : goal.returns-in_err-read_timed-clause-fault
returns-in_err-read_timed-clause-fault g c = λ input t.
    if_err c.from_residual.result (timing_begun g.M.Medium.seen _ _ input (source_bytes_left g.R.Read.remaining c.lines.lines) c.lines.number c.lines.from (party_of c.args.pace c.args.device) c.args.stage.now.player c.lines.stage.player c.args.stage.now.bus c.lines.stage.bus (c.lines.invariant.timing input t) c.lines.invariant.opened.second)

pub returns-in_err-read_timed-clause-wrote : goal.returns-in_err-read_timed-clause-wrote
returns-in_err-read_timed-clause-wrote g c = λ input fresh t.
    let p = err_from_is_err_and c.from_residual.result c.from_residual.ensures.1 in
    wrote_read g.M.Medium.seen (party_of c.args.pace c.args.device) _ _ input (source_bytes_left g.R.Read.remaining c.lines.lines) (source_bytes_left g.R.Read.remaining c.read_timed.new.lines) c.lines.number c.lines.from c.from_residual.result _ _ c.args.stage.now.player c.lines.stage.player c.args.stage.now.bus c.lines.stage.bus
    (ap length c.lines.invariant.tracks ∙ c.requires.one) fresh (c.lines.invariant.timing input t) c.lines.invariant.opened c.in_err-read_timed.ensures (p.1 ∙ ap Err p.2)

-- a change broke off
pub returns-in_err-change-in-Changes-clause-fault : goal.returns-in_err-change-in-Changes-clause-fault
returns-in_err-change-in-Changes-clause-fault g c = λ input t.
    let read = rw c.in-Changes.is at c.in_ok-read_timed.ensures in
    if_err c.from_residual-in_err-change-in-Changes.result (change_begun g.M.Medium.seen _ _ _ input (source_bytes_left g.R.Read.remaining c.lines.lines) (source_bytes_left g.R.Read.remaining c.read_timed.new.lines) c.lines.number c.lines.from (party_of c.args.pace c.args.device) c.in-Changes.change
    c.args.stage.now.player c.lines.stage.player c.args.stage.now.bus c.lines.stage.bus (c.lines.invariant.timing input t) read.0 c.in_err-change-in-Changes.ensures.staged.err)

pub returns-in_err-change-in-Changes-clause-grows : goal.returns-in_err-change-in-Changes-clause-grows
returns-in_err-change-in-Changes-clause-grows g c = grows_on _ _ _ c.lines.invariant.grown c.in_err-change-in-Changes.ensures.staged.grows

pub returns-in_err-flush-in-Changes-clause-fault : goal.returns-in_err-flush-in-Changes-clause-fault
returns-in_err-flush-in-Changes-clause-fault g c = λ input t.
    let read = rw c.in-Changes.is at c.in_ok-read_timed.ensures in
    let seen = g.M.Medium.seen in
    if_err c.from_residual-in_err-flush-in-Changes.result (timing_begun seen _ _ input (source_bytes_left g.R.Read.remaining c.read_timed.new.lines) (c.lines.number + 1) c.in-Changes.change.moment (party_of c.args.pace c.args.device) c.args.stage.now.player c.change.new.self.player c.args.stage.now.bus c.change.new.self.bus
    (timing_change seen _ _ _ _ input (source_bytes_left g.R.Read.remaining c.lines.lines) (source_bytes_left g.R.Read.remaining c.read_timed.new.lines) c.lines.number c.lines.from c.in-Changes.change c.args.stage.now.player c.lines.stage.player c.change.new.self.player c.args.stage.now.bus c.lines.stage.bus c.change.new.self.bus
    (c.lines.invariant.timing input t) read.0 c.in_ok-change-in-Changes.ensures.ok c.in_ok-change-in-Changes.ensures.wrote c.flush.ensures.bytes) c.in_ok-change-in-Changes.ensures.open.second)

pub returns-in_err-flush-in-Changes-clause-grows : goal.returns-in_err-flush-in-Changes-clause-grows
returns-in_err-flush-in-Changes-clause-grows g c = grows_kept _ _ _ (grows_on _ _ _ c.lines.invariant.grown c.in_ok-change-in-Changes.ensures.staged.grows) c.flush.ensures.bytes

-- the end broke off
pub returns-in_err-end-in-Ends-clause-fault : goal.returns-in_err-end-in-Ends-clause-fault
returns-in_err-end-in-Ends-clause-fault g c = λ input t.
    if_err c.from_residual-in_err-end-in-Ends.result (end_begun g.M.Medium.seen _ _ _ input (source_bytes_left g.R.Read.remaining c.lines.lines) c.lines.number c.lines.from (party_of c.args.pace c.args.device) c.args.stage.now.player c.lines.stage.player c.args.stage.now.bus c.lines.stage.bus (c.lines.invariant.timing input t) c.in_err-end-in-Ends.ensures.staged.err)

pub returns-in_err-end-in-Ends-clause-grows : goal.returns-in_err-end-in-Ends-clause-grows
returns-in_err-end-in-Ends-clause-grows g c = grows_on _ _ _ c.lines.invariant.grown c.in_err-end-in-Ends.ensures.staged.grows

pub returns-in_err-flush-in-Ends-clause-fault : goal.returns-in_err-flush-in-Ends-clause-fault
returns-in_err-flush-in-Ends-clause-fault g c = λ input t.
    let seen = g.M.Medium.seen in
    if_err c.from_residual-in_err-flush-in-Ends.result (end_begun seen _ _ _ input (source_bytes_left g.R.Read.remaining c.lines.lines) c.lines.number c.lines.from (party_of c.args.pace c.args.device) c.args.stage.now.player c.lines.stage.player c.args.stage.now.bus c.lines.stage.bus (c.lines.invariant.timing input t)
    (ended_part seen _ _ c.in-Ends.end c.lines.stage.player c.end.new.self.player c.lines.stage.bus c.end.new.self.bus (ends_kept seen _ _ _ c.in-Ends.end c.lines.stage.player c.end.new.self.player c.lines.stage.bus c.end.new.self.bus c.in_ok-end-in-Ends.ensures.ok c.flush-in-Ends.ensures.bytes)))

pub returns-in_err-flush-in-Ends-clause-grows : goal.returns-in_err-flush-in-Ends-clause-grows
returns-in_err-flush-in-Ends-clause-grows g c = grows_kept _ _ _ (grows_on _ _ _ c.lines.invariant.grown c.in_ok-end-in-Ends.ensures.staged.grows) c.flush-in-Ends.ensures.bytes

-- a line after the end can't be had, or is refused
pub returns-in_err-read_after_end-in-Ends-clause-ended : goal.returns-in_err-read_after_end-in-Ends-clause-ended
returns-in_err-read_after_end-in-Ends-clause-ended g c = λ input t.
    let read = rw c.in-Ends.is at c.in_ok-read_timed.ensures in
    let p = err_from_is_err_and c.from_residual-in_err-read_after_end-in-Ends.result c.from_residual-in_err-read_after_end-in-Ends.ensures.1 in
    after_faulted g.M.Medium.seen _ _ input (source_bytes_left g.R.Read.remaining c.lines.lines) (source_bytes_left g.R.Read.remaining c.read_timed.new.lines) c.lines.number c.lines.from c.in-Ends.end (party_of c.args.pace c.args.device) c.from_residual-in_err-read_after_end-in-Ends.result _ _
    c.args.stage.now.player c.lines.stage.player c.args.stage.now.bus c.lines.stage.bus (ap length c.lines.invariant.tracks ∙ c.requires.one) (c.lines.invariant.timing input t) c.lines.invariant.opened read.0 c.in_err-read_after_end-in-Ends.ensures (p.1 ∙ ap Err p.2)

pub returns-in_err-read_after_end-in-Ends-clause-fault : goal.returns-in_err-read_after_end-in-Ends-clause-fault
returns-in_err-read_after_end-in-Ends-clause-fault g c = λ input t.
    if_err c.from_residual-in_err-read_after_end-in-Ends.result (timing_begun g.M.Medium.seen _ _ input (source_bytes_left g.R.Read.remaining c.lines.lines) c.lines.number c.lines.from (party_of c.args.pace c.args.device) c.args.stage.now.player c.lines.stage.player c.args.stage.now.bus c.lines.stage.bus (c.lines.invariant.timing input t) c.lines.invariant.opened.second)

pub returns-in_err-read_after_end-in-Ends-clause-wrote : goal.returns-in_err-read_after_end-in-Ends-clause-wrote
returns-in_err-read_after_end-in-Ends-clause-wrote g c = λ input fresh t.
    let read = rw c.in-Ends.is at c.in_ok-read_timed.ensures in
    let p = err_from_is_err_and c.from_residual-in_err-read_after_end-in-Ends.result c.from_residual-in_err-read_after_end-in-Ends.ensures.1 in
    wrote_after_it g.M.Medium.seen (party_of c.args.pace c.args.device) _ _ input (source_bytes_left g.R.Read.remaining c.lines.lines) (source_bytes_left g.R.Read.remaining c.read_timed.new.lines) c.lines.number c.lines.from c.in-Ends.end c.from_residual-in_err-read_after_end-in-Ends.result _ _
    c.args.stage.now.player c.lines.stage.player c.args.stage.now.bus c.lines.stage.bus (ap length c.lines.invariant.tracks ∙ c.requires.one) fresh (c.lines.invariant.timing input t) c.lines.invariant.opened read.0 c.in_err-read_after_end-in-Ends.ensures (p.1 ∙ ap Err p.2)

-- all was read
pub returns-in-Ends-clause-wrote : goal.returns-in-Ends-clause-wrote
returns-in-Ends-clause-wrote g c = λ input fresh t.
    let read = rw c.in-Ends.is at c.in_ok-read_timed.ensures in
    wrote_ended g.M.Medium.seen (party_of c.args.pace c.args.device) _ _ _ _ input (source_bytes_left g.R.Read.remaining c.lines.lines) (source_bytes_left g.R.Read.remaining c.read_timed.new.lines) c.lines.number c.lines.from c.in-Ends.end _
    c.args.stage.now.player c.lines.stage.player c.end.new.self.player c.args.stage.now.bus c.lines.stage.bus c.end.new.self.bus (is_drive c.args.pace c.args.device c.requires.device.0 c.requires.device.1) (ap length (c.in_ok-end-in-Ends.ensures.staged.tracks ∙ c.lines.invariant.tracks) ∙ c.requires.one) fresh (c.lines.invariant.timing input t) read.0 c.in_ok-end-in-Ends.ensures.wrote c.flush-in-Ends.ensures.bytes c.in_ok-read_after_end-in-Ends.ensures

pub returns-in-Ends-clause-ended : goal.returns-in-Ends-clause-ended
returns-in-Ends-clause-ended g c = λ input t.
    let read = rw c.in-Ends.is at c.in_ok-read_timed.ensures in
    let seen = g.M.Medium.seen in
    timing_ended seen _ _ _ input (source_bytes_left g.R.Read.remaining c.lines.lines) (source_bytes_left g.R.Read.remaining c.read_timed.new.lines) c.lines.number c.lines.from c.in-Ends.end (party_of c.args.pace c.args.device) _ c.args.stage.now.player c.lines.stage.player c.end.new.self.player
    c.args.stage.now.bus c.lines.stage.bus c.end.new.self.bus (is_drive c.args.pace c.args.device c.requires.device.0 c.requires.device.1) (ap length (c.in_ok-end-in-Ends.ensures.staged.tracks ∙ c.lines.invariant.tracks) ∙ c.requires.one) (c.lines.invariant.timing input t) read.0
    (ends_kept seen _ _ _ c.in-Ends.end c.lines.stage.player c.end.new.self.player c.lines.stage.bus c.end.new.self.bus c.in_ok-end-in-Ends.ensures.ok c.flush-in-Ends.ensures.bytes) c.in_ok-read_after_end-in-Ends.ensures

pub returns-in-Ends-clause-grows : goal.returns-in-Ends-clause-grows
returns-in-Ends-clause-grows g c = grows_kept _ _ _ (grows_on _ _ _ c.lines.invariant.grown c.in_ok-end-in-Ends.ensures.staged.grows) c.flush-in-Ends.ensures.bytes

pub lines-preserved : goal.lines-preserved
lines-preserved g c =
    let seen = g.M.Medium.seen in
    let left = source_bytes_left g.R.Read.remaining in
    let contents = g.W.Write.contents in
    let goes : Stage g.row.M.Denot → g.row.W.Denot → ℕ → Type 0 = λ stage writer from. Loops seen c.args.stage.now.player c.args.stage.now.bus (contents c.args.writer.now) (contents writer) (left c.args.lines.now) (left c.read_timed.new.lines) (c.lines.number + 1) from stage.player stage.bus in
    elim c.match-branch-2.branch [
      | in-Skipped w ↦ let read = rw w.in-Skipped.is at c.in_ok-read_timed.ensures in
          joined goes c.lines.stage c.match-branch-2.stage c.lines.writer c.match-branch-2.writer c.lines.from c.match-branch-2.from w.stage-is w.writer-is w.from-is (record {
            timing = λ input t. timing_skipped seen _ _ input (left c.lines.lines) (left c.read_timed.new.lines) c.lines.number c.lines.from c.args.stage.now.player c.args.stage.now.bus c.lines.stage.player c.lines.stage.bus (c.lines.invariant.timing input t) read.0;
            opened = c.lines.invariant.opened;
            small = c.lines.invariant.small;
            few = (let r = read.1 in omega (arith, r));
            tracks = c.lines.invariant.tracks;
            grown = c.lines.invariant.grown;
          })
      | in-Changes+in_ok-change-in-Changes+in_ok-flush-in-Changes w ↦ let read = rw w.in-Changes.is at c.in_ok-read_timed.ensures in
          joined goes w.change.new.self c.match-branch-2.stage w.flush.new.writer c.match-branch-2.writer w.in-Changes.change.moment c.match-branch-2.from w.stage-is w.writer-is w.from-is (record {
            timing = λ input t. timing_change seen _ _ _ _ input (left c.lines.lines) (left c.read_timed.new.lines) c.lines.number c.lines.from w.in-Changes.change c.args.stage.now.player c.lines.stage.player w.change.new.self.player c.args.stage.now.bus c.lines.stage.bus w.change.new.self.bus
                (c.lines.invariant.timing input t) read.0 w.in_ok-change-in-Changes.ensures.ok w.in_ok-change-in-Changes.ensures.wrote w.flush.ensures.bytes;
            opened = w.in_ok-change-in-Changes.ensures.open;
            small = read.2;
            few = (let r = read.1 in omega (arith, r));
            tracks = w.in_ok-change-in-Changes.ensures.staged.tracks ∙ c.lines.invariant.tracks;
            grown = grows_kept _ _ _ (grows_on _ _ _ c.lines.invariant.grown w.in_ok-change-in-Changes.ensures.staged.grows) w.flush.ensures.bytes;
          })
    ]
