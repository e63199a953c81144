use Rattle.std.proofs.Common.{sym, ap, ◌∙◌}
use Rattle.cbm_channel.specs.Written.{is_unbegun}
use Rattle.cbm_channel.proofs.BytesPut.{writes_so}
use Rattle.cbm_channel.proofs.Finished.{unbegun_none}
use Rattle.cbm_channel.proofs.channel.Channel.is_empty.Goals as goal
use Rattle.cbm_channel.specs.BytesMeant.{is_file_empty}
use Rattle.cbm_channel.proofs.BytesDone.{not_empty_file}

pub returns-in-Writing-clause-value : goal.returns-in-Writing-clause-value
returns-in-Writing-clause-value g c = λ d uses ch x h e s.
    let at = writes_so c.args.self.now c.in-Writing.writer c.in-Writing.field-1 x (uses ch) c.in-Writing.is s e in
    c.is_empty.ensures.value d uses ch at.0 at.1 h at.3 ∙ sym (ap is_unbegun at.2)

pub returns-in_default-clause-value : goal.returns-in_default-clause-value
returns-in_default-clause-value g c = λ d uses ch x h e s. sym (unbegun_none c.args.self.now x c.in_default.not-Writing s)

pub returns-in-Writing-clause-holds : goal.returns-in-Writing-clause-holds
returns-in-Writing-clause-holds g c = c.is_empty.ensures.holds ∙ sym (ap is_file_empty c.in-Writing.is)

pub returns-in_default-clause-holds : goal.returns-in_default-clause-holds
returns-in_default-clause-holds g c = sym (not_empty_file c.args.self.now c.in_default.not-Writing)
