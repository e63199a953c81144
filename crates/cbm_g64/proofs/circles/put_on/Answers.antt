use Rattle.std.proofs.Common.{◌≡◌, ℕ, get_or, ◌-◌, refl, arith, ap, subst}
use Rattle.cbm_g64.specs.Tracks.{IsCircleChanged}
use Rattle.cbm_g64.proofs.Contents.{has_of, answer_is, put_is, write_is, change_is, on_a_track}
use Rattle.cbm_g64.proofs.circles.put_on.Goals as goal

pub returns-clause-ok : goal.returns-clause-ok
returns-clause-ok c = write_is c.write_sector.result c.args.tracks.now (get_or c.args.tracks.now (c.track.result - 1) c.index-tracks-track.result) c.index-tracks-track.result c.write_sector.new.self c.args.at c.args.bytes.now c.id_on-id.result c.track.result
    c.requires.count (has_of c.args.at c.track.ensures.on_disk c.requires.track) c.track.ensures.value refl c.id_on-id.ensures c.write_sector.ensures.id c.write_sector.ensures.ok c.write_sector.ensures.others

pub returns-clause-refused : goal.returns-clause-refused
returns-clause-refused c = rw (answer_is c.args.tracks.now c.args.at (get_or c.args.tracks.now (c.track.result - 1) c.index-tracks-track.result) c.index-tracks-track.result c.id_on-id.result c.track.result c.requires.count (has_of c.args.at c.track.ensures.on_disk c.requires.track) c.track.ensures.value refl c.id_on-id.ensures) c.write_sector.ensures.refused

pub returns-clause-cause : goal.returns-clause-cause
returns-clause-cause c = rw (answer_is c.args.tracks.now c.args.at (get_or c.args.tracks.now (c.track.result - 1) c.index-tracks-track.result) c.index-tracks-track.result c.id_on-id.result c.track.result c.requires.count (has_of c.args.at c.track.ensures.on_disk c.requires.track) c.track.ensures.value refl c.id_on-id.ensures) c.write_sector.ensures.cause

pub returns-clause-changed : goal.returns-clause-changed
returns-clause-changed c =
    let b = on_a_track c.args.at (has_of c.args.at c.track.ensures.on_disk c.requires.track) in
    let t : c.track.result - 1 ≡ c.args.at.track - 1 = ap (λ (n : ℕ). n - 1) c.track.ensures.value in
    subst (IsCircleChanged c.args.tracks.now _) t (
    change_is c.write_sector.result c.args.tracks.now (get_or c.args.tracks.now (c.track.result - 1) c.index-tracks-track.result) c.index-tracks-track.result c.write_sector.new.self (c.track.result - 1)
    (omega (arith, b.0, b.1)) refl c.write_sector.ensures.length c.write_sector.ensures.long c.write_sector.ensures.err c.write_sector.ensures.id)

pub returns-clause-block : goal.returns-clause-block
returns-clause-block c = put_is c.write_sector.result c.args.tracks.now (get_or c.args.tracks.now (c.track.result - 1) c.index-tracks-track.result) c.index-tracks-track.result c.write_sector.new.self c.args.at c.args.bytes.now c.id_on-id.result c.track.result
    c.requires.count (has_of c.args.at c.track.ensures.on_disk c.requires.track) c.track.ensures.value refl c.id_on-id.ensures c.write_sector.ensures.bits
