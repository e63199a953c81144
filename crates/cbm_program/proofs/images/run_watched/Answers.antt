use Rattle.cbm_host.proofs.Hosting.{is_drive}
use Rattle.cbm_host.specs.Hosted.{party_of}
use Rattle.cbm_program.proofs.TracesKept.{traces_kept, traces_kept_loosely}
use Rattle.cbm_program.proofs.images.run_watched.Goals as goal

pub returns-clause-loosely : goal.returns-clause-loosely
returns-clause-loosely g c = traces_kept_loosely (party_of c.args.options.now.pace c.args.options.now.device) (is_drive c.args.options.now.pace c.args.options.now.device c.requires.0 c.requires.1)

pub returns-clause-kept : goal.returns-clause-kept
returns-clause-kept g c = traces_kept (party_of c.args.options.now.pace c.args.options.now.device) (is_drive c.args.options.now.pace c.args.options.now.device c.requires.0 c.requires.1)
