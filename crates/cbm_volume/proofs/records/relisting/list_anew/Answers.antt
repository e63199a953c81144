use Rattle.cbm_medium.specs.Seen.{Seen}
use Rattle.cbm_volume.proofs.relative.SidesAnew.{anew_means, form_means}
use Rattle.cbm_volume.proofs.records.relisting.list_anew.Goals as goal

pub returns-clause-listed : goal.returns-clause-listed
returns-clause-listed g c = λ n b size d uses w rs o is.
    let old : Seen = g.M.Medium.seen c.args.medium.now in
    let new : Seen = g.M.Medium.seen c.list_anew.new.medium in
    anew_means old new d uses n w b c.args.sides rs o c.tracks-tracks.ensures.whole c.args.geometry c.args.file c.list_anew.result size is c.list_anew.ensures.laid

pub returns-clause-form : goal.returns-clause-form
returns-clause-form g c = λ n b size d uses w rs o is.
    let old : Seen = g.M.Medium.seen c.args.medium.now in
    let new : Seen = g.M.Medium.seen c.list_anew.new.medium in
    form_means old new d uses n w b c.args.sides rs o c.tracks-tracks.ensures.whole c.args.geometry c.args.file c.list_anew.result size is c.list_anew.ensures.form
