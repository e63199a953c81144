use Rattle.std.proofs.Common.{rules, ℕ, false, ap, sym, subst, ◌∙◌, refl}
use Rattle.std.specs.Prelude.{◌==◌, not}
use Rattle.cbm_channel.specs.declared.channel.Channel.{Channel}
use Rattle.cbm_channel.specs.Shown.{finishes_on}
use Rattle.cbm_channel.proofs.BytesPut.{not_written, put_nothing, put_full, fits_on, writes_so, put_done, cut_off}
use Rattle.cbm_channel.proofs.Rest.{rest_itself, store_rest, writer_size}
use Rattle.cbm_channel.proofs.channel.Channel.put.Goals as goal
use Rattle.cbm_channel.proofs.BytesDone.{dropped_other, dropped_full}
use Rattle.cbm_channel.specs.BytesMeant.{PutMeant}
use Rattle.cbm_channel.specs.declared.channel.Channel.TheVariants.{Writing}

-- the channel isn't written
pub returns-in_default-clause-call : goal.returns-in_default-clause-call
returns-in_default-clause-call g c = λ d uses ch x h e s.
    record {
      done = put_nothing _ _ c.args.byte d uses ch c.args.self.now x (not_written c.args.byte d c.args.self.now x c.in_default.not-Writing s) h e s;
      stopped = (search rules);
      cause = (search rules);
      rest = rest_itself _ _ refl;
    }

-- the disk was full
pub returns-then-full-clause-call : goal.returns-then-full-clause-call
returns-then-full-clause-call g c = λ d uses ch x h e s.
    record {
      done = put_full _ _ c.args.byte d uses ch c.args.self.now c.in-Writing.writer c.in-Writing.full x c.in-Writing.is c.if-full.true h e s;
      stopped = (search rules);
      cause = (search rules);
      rest = rest_itself _ _ refl;
    }

pub returns-in-Ok-clause-fits : goal.returns-in-Ok-clause-fits
returns-in-Ok-clause-fits g c =
    fits_on _ _ c.args.self.now c.in-Writing.writer c.store.new.writer c.in-Writing.full c.in-Writing.is c.store.ensures.writer.2 c.store.ensures.only.tracks c.requires

-- a byte more, or the first that is lost
pub returns-in-Ok-clause-call : goal.returns-in-Ok-clause-call
returns-in-Ok-clause-call g c = λ d uses ch x h e s.
    record {
      done =
          put_done _ _ _ c.args.byte d uses ch c.args.self.now c.in-Writing.writer c.store.new.writer c.in-Writing.full c.in-Ok.stored x c.in-Writing.is c.if-full.false c.store.ensures.writer.0 c.store.ensures.writer.1 h e s
          (λ bytes blocks is. (c.in-Ok.ensures.call d uses ch bytes blocks h is).done);
      stopped = (search rules);
      cause = (search rules);
      rest =
          let at = writes_so c.args.self.now c.in-Writing.writer c.in-Writing.full x (uses ch) c.in-Writing.is s e in
          store_rest c.store.result (g.M.Medium.seen c.args.volume.now) (g.M.Medium.seen c.store.new.self) d uses _ ch c.in-Writing.writer c.store.new.writer at.0 at.1 c.args.byte _ c.store.ensures.only
          (writer_size (g.M.Medium.seen c.args.volume.now).tracks (g.M.Medium.seen c.args.volume.now).content d uses ch c.in-Writing.writer at.0 at.1 h at.3) h (c.store.ensures.call d uses ch at.0 at.1 h at.3);
    }

-- a write was refused
pub returns-in-Err-clause-call : goal.returns-in-Err-clause-call
returns-in-Err-clause-call g c = λ d uses ch x h e s.
    record {
      done = (search rules);
      stopped =
          let at = writes_so c.args.self.now c.in-Writing.writer c.in-Writing.full x (uses ch) c.in-Writing.is s e in
          (cut_off d c.args.self.now c.in-Writing.writer c.in-Writing.full x c.slot.result c.in-Writing.is s (c.slot.ensures ∙ c.store.ensures.writer.0), (c.in-Err.ensures.call d uses ch at.0 at.1 h at.3).stopped);
      cause =
          let at = writes_so c.args.self.now c.in-Writing.writer c.in-Writing.full x (uses ch) c.in-Writing.is s e in
          (c.in-Err.ensures.call d uses ch at.0 at.1 h at.3).cause;
      rest =
          let at = writes_so c.args.self.now c.in-Writing.writer c.in-Writing.full x (uses ch) c.in-Writing.is s e in
          store_rest c.store.result (g.M.Medium.seen c.args.volume.now) (g.M.Medium.seen c.store.new.self) d uses _ ch c.in-Writing.writer c.store.new.writer at.0 at.1 c.args.byte _ c.store.ensures.only
          (writer_size (g.M.Medium.seen c.args.volume.now).tracks (g.M.Medium.seen c.args.volume.now).content d uses ch c.in-Writing.writer at.0 at.1 h at.3) h (c.store.ensures.call d uses ch at.0 at.1 h at.3);
    }

-- ---- the slot

pub returns-in-Ok-clause-slot : goal.returns-in-Ok-clause-slot
returns-in-Ok-clause-slot g c = λ n free. ap (λ (k : ℕ). k == n) c.store.ensures.writer.0 ∙ sym (ap (λ (y : Channel). finishes_on n y) c.in-Writing.is) ∙ free

pub returns-in-Err-clause-slot : goal.returns-in-Err-clause-slot
returns-in-Err-clause-slot g c = λ n free. refl

-- ---- on any disk

pub returns-in_default-clause-led : goal.returns-in_default-clause-led
returns-in_default-clause-led g c = dropped_other (g.M.Medium.seen c.args.volume.now) (g.M.Medium.seen c.args.volume.now) c.args.byte c.args.self.now c.in_default.not-Writing refl

pub returns-then-full-clause-led : goal.returns-then-full-clause-led
returns-then-full-clause-led g c = dropped_full (g.M.Medium.seen c.args.volume.now) (g.M.Medium.seen c.args.volume.now) c.args.byte c.args.self.now c.in-Writing.writer c.in-Writing.full c.in-Writing.is c.if-full.true refl

pub returns-in-Ok-clause-led : goal.returns-in-Ok-clause-led
returns-in-Ok-clause-led g c =
    subst (λ (k : Channel). PutMeant (g.M.Medium.seen c.args.volume.now) (g.M.Medium.seen c.store.new.self) c.args.byte k (Writing c.store.new.writer (not c.in-Ok.stored)) c.in-Ok.stored) (sym (c.in-Writing.is ∙ ap (Writing c.in-Writing.writer) c.if-full.false))
    (c.store.new.writer.chain, (λ i. Writing (record { slot = c.store.ensures.writer.0 i; replaces = c.store.ensures.writer.1 i; chain = c.store.new.writer.chain }) (not c.in-Ok.stored)), c.in-Ok.ensures.led)
