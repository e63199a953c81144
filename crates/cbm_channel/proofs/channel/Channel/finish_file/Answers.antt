use Rattle.std.proofs.Common.{rules, sym, ◌∙◌, refl}
use Rattle.cbm_volume.proofs.layouts.Calls.{if_ok, on_ok}
use Rattle.cbm_channel.proofs.BytesPut.{writes_so, written_on}
use Rattle.cbm_channel.proofs.Finished.{let_go_none, closed_plain, closed_replaced, closed_given, stopped_early, on_err, ok_to, err_to}
use Rattle.cbm_file.specs.Files.{file_at}
use Rattle.cbm_channel.proofs.Rest.{rest_itself, rest_none, change_rest, given_rest, writer_size, max_size, finished_total, replaced_total}
use Rattle.cbm_channel.proofs.Spared.{finish_rest}
use Rattle.cbm_channel.proofs.channel.Channel.finish_file.Goals as goal
use Rattle.cbm_channel.proofs.BytesDone.{finished_none, finished_plain, finished_given, finished_replaced}
use Rattle.cbm_volume.proofs.layouts.Calls.{ok_so}

pub returns-in_default-clause-call : goal.returns-in_default-clause-call
returns-in_default-clause-call g c = λ d uses ch x h e s.
    record {
      done = let_go_none _ _ d uses ch c.args.self.now x c.in_default.not-Writing s h;
      stopped = (search rules);
      cause = (search rules);
      rest = rest_itself _ _ refl;
    }

-- a new file, or one that was appended to
pub returns-then-not-replaces-clause-call : goal.returns-then-not-replaces-clause-call
returns-then-not-replaces-clause-call g c = λ d uses ch x h e s.
    record {
      done =
          let at = writes_so c.args.self.now c.in-Writing.writer c.in-Writing.full x (uses ch) c.in-Writing.is s e in
          if_ok c.finish.result _ (ok_to (g.M.Medium.seen c.args.volume.now).tracks (g.M.Medium.seen c.finish.new.self).content _ _ uses ch c.finish.result (closed_plain d c.in-Writing.writer.slot at.1 at.0 c.in-Writing.full c.in-Writing.writer.replaces x at.2 (sym c.replaces.ensures ∙ c.if-not-replaces.true))
          (on_ok c.finish.result _ (c.finish.ensures.call d uses ch at.0 at.1 h at.3).done));
      stopped =
          let at = writes_so c.args.self.now c.in-Writing.writer c.in-Writing.full x (uses ch) c.in-Writing.is s e in
          err_to _ _ d _ _ uses ch c.finish.result (closed_plain d c.in-Writing.writer.slot at.1 at.0 c.in-Writing.full c.in-Writing.writer.replaces x at.2 (sym c.replaces.ensures ∙ c.if-not-replaces.true))
          (c.finish.ensures.call d uses ch at.0 at.1 h at.3).stopped;
      cause =
          let at = writes_so c.args.self.now c.in-Writing.writer c.in-Writing.full x (uses ch) c.in-Writing.is s e in
          (c.finish.ensures.call d uses ch at.0 at.1 h at.3).cause;
      rest =
          let at = writes_so c.args.self.now c.in-Writing.writer c.in-Writing.full x (uses ch) c.in-Writing.is s e in
          finish_rest _ _ c.args.self.now c.in-Writing.writer c.in-Writing.full c.in-Writing.is (change_rest c.finish.result (g.M.Medium.seen c.args.volume.now) (g.M.Medium.seen c.finish.new.self) d _ uses _ _ c.finish.ensures.only (max_size _ _ (writer_size (g.M.Medium.seen c.args.volume.now).tracks (g.M.Medium.seen c.args.volume.now).content d uses ch c.in-Writing.writer at.0 at.1 h at.3)) h (c.finish.ensures.call d uses ch at.0 at.1 h at.3) (finished_total (file_at d c.in-Writing.writer.slot) d c.in-Writing.writer.slot at.0 at.1));
    }

-- a replacement on a full disk
pub returns-then-full-clause-call : goal.returns-then-full-clause-call
returns-then-full-clause-call g c = λ d uses ch x h e s.
    record {
      done =
          let at = writes_so c.args.self.now c.in-Writing.writer c.in-Writing.full x (uses ch) c.in-Writing.is s e in
          if_ok c.give_up.result _ (ok_to (g.M.Medium.seen c.args.volume.now).tracks (g.M.Medium.seen c.give_up.new.self).content _ _ uses ch c.give_up.result
          (closed_given _ _ d uses ch c.in-Writing.writer at.0 at.1 c.in-Writing.full x h at.3 at.2 c.if-full.true (sym c.replaces.ensures ∙ c.if-not-replaces.false))
          (on_ok c.give_up.result _ (c.give_up.ensures.call d uses ch at.0 at.1 h at.3).done));
      stopped =
          let at = writes_so c.args.self.now c.in-Writing.writer c.in-Writing.full x (uses ch) c.in-Writing.is s e in
          stopped_early _ _ d _ _ c.give_up.result (c.give_up.ensures.call d uses ch at.0 at.1 h at.3).stopped;
      cause =
          let at = writes_so c.args.self.now c.in-Writing.writer c.in-Writing.full x (uses ch) c.in-Writing.is s e in
          (c.give_up.ensures.call d uses ch at.0 at.1 h at.3).cause;
      rest =
          let at = writes_so c.args.self.now c.in-Writing.writer c.in-Writing.full x (uses ch) c.in-Writing.is s e in
          rest_none _ _ (given_rest c.give_up.result (g.M.Medium.seen c.args.volume.now) (g.M.Medium.seen c.give_up.new.self) d uses _ at.1 _ c.give_up.ensures.only (writer_size (g.M.Medium.seen c.args.volume.now).tracks (g.M.Medium.seen c.args.volume.now).content d uses ch c.in-Writing.writer at.0 at.1 h at.3) h (c.give_up.ensures.call d uses ch at.0 at.1 h at.3));
    }

-- a replacement
pub returns-else-full-clause-call : goal.returns-else-full-clause-call
returns-else-full-clause-call g c = λ d uses ch x h e s.
    record {
      done =
          let at = writes_so c.args.self.now c.in-Writing.writer c.in-Writing.full x (uses ch) c.in-Writing.is s e in
          let way = sym c.replaces.ensures ∙ c.if-not-replaces.false in
          if_ok c.finish_replacement.result _ (ok_to (g.M.Medium.seen c.args.volume.now).tracks (g.M.Medium.seen c.finish_replacement.new.self).content _ _ uses ch c.finish_replacement.result (closed_replaced d c.in-Writing.writer.slot at.1 at.0 c.in-Writing.full c.in-Writing.writer.replaces x at.2 c.if-full.false way)
          (on_ok c.finish_replacement.result _ (c.finish_replacement.ensures.call d uses ch at.0 at.1 h at.3 way).done));
      stopped =
          let at = writes_so c.args.self.now c.in-Writing.writer c.in-Writing.full x (uses ch) c.in-Writing.is s e in
          let way = sym c.replaces.ensures ∙ c.if-not-replaces.false in
          err_to _ _ d _ _ uses ch c.finish_replacement.result (closed_replaced d c.in-Writing.writer.slot at.1 at.0 c.in-Writing.full c.in-Writing.writer.replaces x at.2 c.if-full.false way)
          (c.finish_replacement.ensures.call d uses ch at.0 at.1 h at.3 way).stopped;
      cause =
          let at = writes_so c.args.self.now c.in-Writing.writer c.in-Writing.full x (uses ch) c.in-Writing.is s e in
          (c.finish_replacement.ensures.call d uses ch at.0 at.1 h at.3 (sym c.replaces.ensures ∙ c.if-not-replaces.false)).cause;
      rest =
          let at = writes_so c.args.self.now c.in-Writing.writer c.in-Writing.full x (uses ch) c.in-Writing.is s e in
          finish_rest _ _ c.args.self.now c.in-Writing.writer c.in-Writing.full c.in-Writing.is (change_rest c.finish_replacement.result (g.M.Medium.seen c.args.volume.now) (g.M.Medium.seen c.finish_replacement.new.self) d _ uses _ _ c.finish_replacement.ensures.only (max_size _ _ (writer_size (g.M.Medium.seen c.args.volume.now).tracks (g.M.Medium.seen c.args.volume.now).content d uses ch c.in-Writing.writer at.0 at.1 h at.3)) h (c.finish_replacement.ensures.call d uses ch at.0 at.1 h at.3 (sym c.replaces.ensures ∙ c.if-not-replaces.false)) (replaced_total (file_at d c.in-Writing.writer.slot) d c.in-Writing.writer.slot at.0 at.1));
    }

pub returns-then-not-replaces-clause-wrote : goal.returns-then-not-replaces-clause-wrote
returns-then-not-replaces-clause-wrote g c = λ x s. on_err _ _ (written_on c.args.self.now c.in-Writing.writer c.in-Writing.full x c.in-Writing.is s)

pub returns-then-full-clause-wrote : goal.returns-then-full-clause-wrote
returns-then-full-clause-wrote g c = λ x s. on_err _ _ (written_on c.args.self.now c.in-Writing.writer c.in-Writing.full x c.in-Writing.is s)

pub returns-else-full-clause-wrote : goal.returns-else-full-clause-wrote
returns-else-full-clause-wrote g c = λ x s. on_err _ _ (written_on c.args.self.now c.in-Writing.writer c.in-Writing.full x c.in-Writing.is s)

-- ---- on any disk

pub returns-in_default-clause-led : goal.returns-in_default-clause-led
returns-in_default-clause-led g c = finished_none (g.M.Medium.seen c.args.volume.now) (g.M.Medium.seen c.args.volume.now) c.args.self.now c.in_default.not-Writing refl

pub returns-then-not-replaces-clause-led : goal.returns-then-not-replaces-clause-led
returns-then-not-replaces-clause-led g c =
    ok_so c.finish.result (finished_plain (g.M.Medium.seen c.args.volume.now) (g.M.Medium.seen c.finish.new.self) c.args.self.now c.in-Writing.writer c.in-Writing.full c.in-Writing.is (sym c.replaces.ensures ∙ c.if-not-replaces.true)) c.finish.ensures.led

pub returns-then-full-clause-led : goal.returns-then-full-clause-led
returns-then-full-clause-led g c =
    ok_so c.give_up.result (finished_given (g.M.Medium.seen c.args.volume.now) (g.M.Medium.seen c.give_up.new.self) c.args.self.now c.in-Writing.writer c.in-Writing.full c.in-Writing.is (sym c.replaces.ensures ∙ c.if-not-replaces.false) c.if-full.true) c.give_up.ensures.led

pub returns-else-full-clause-led : goal.returns-else-full-clause-led
returns-else-full-clause-led g c =
    ok_so c.finish_replacement.result (finished_replaced (g.M.Medium.seen c.args.volume.now) (g.M.Medium.seen c.finish_replacement.new.self) c.args.self.now c.in-Writing.writer c.in-Writing.full c.in-Writing.is (sym c.replaces.ensures ∙ c.if-not-replaces.false) c.if-full.false) c.finish_replacement.ensures.led
