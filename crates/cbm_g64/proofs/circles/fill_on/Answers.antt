use Rattle.std.proofs.Common.{◌≡◌, ℕ, get_or, set, ◌-◌, refl, sym, arith, ap, subst, Ok}
use Rattle.cbm_g64.specs.Tracks.{IsCircleChanged}
use Rattle.cbm_g64.proofs.Contents.{has_of, put_is, write_is, change_is, laid_kept, on_a_track}
use Rattle.cbm_g64.proofs.Filled.{filled_put}
use Rattle.cbm_g64.proofs.circles.fill_on.Goals as goal
use Rattle.cbm_g64.proofs.circles.fill_on.Goals.{After-fill_sector}

pub returns-clause-content : goal.returns-clause-content
returns-clause-content c = write_is {E = ℕ} (Ok tt) c.args.tracks.now (get_or c.args.tracks.now (c.track.result - 1) c.index-tracks-track.result) c.index-tracks-track.result c.fill_sector.new.self c.args.at c.args.bytes.now c.args.id.now c.track.result
    c.requires.count (has_of c.args.at c.track.ensures.on_disk c.requires.track) c.track.ensures.value refl (sym c.requires.id) c.fill_sector.ensures.id c.fill_sector.ensures.ok c.fill_sector.ensures.others

-- its track alone changes
changes : (c : After-fill_sector) → IsCircleChanged c.args.tracks.now (set c.args.tracks.now (c.track.result - 1) c.fill_sector.new.self) (c.track.result - 1)
changes c =
    let b = on_a_track c.args.at (has_of c.args.at c.track.ensures.on_disk c.requires.track) in
    change_is {E = ℕ} (Ok tt) c.args.tracks.now (get_or c.args.tracks.now (c.track.result - 1) c.index-tracks-track.result) c.index-tracks-track.result c.fill_sector.new.self (c.track.result - 1)
    (omega (arith, b.0, b.1)) refl c.fill_sector.ensures.length c.fill_sector.ensures.long tt c.fill_sector.ensures.id

pub returns-clause-changed : goal.returns-clause-changed
returns-clause-changed c =
    let t : c.track.result - 1 ≡ c.args.at.track - 1 = ap (λ (n : ℕ). n - 1) c.track.ensures.value in
    subst (IsCircleChanged c.args.tracks.now _) t (changes c)

pub returns-clause-laid : goal.returns-clause-laid
returns-clause-laid c = laid_kept c.args.tracks.now (get_or c.args.tracks.now (c.track.result - 1) c.index-tracks-track.result) c.index-tracks-track.result c.fill_sector.new.self c.args.at c.track.result
    c.requires.count (has_of c.args.at c.track.ensures.on_disk c.requires.track) c.track.ensures.value refl (changes c) c.fill_sector.ensures.blocks c.requires.laid

pub returns-clause-filled : goal.returns-clause-filled
returns-clause-filled c =
    let h = has_of c.args.at c.track.ensures.on_disk c.requires.track in
    let t : c.track.result - 1 ≡ c.args.at.track - 1 = ap (λ (n : ℕ). n - 1) c.track.ensures.value in
    filled_put c.args.id.now c.args.tracks.now (set c.args.tracks.now (c.track.result - 1) c.fill_sector.new.self) c.args.at c.args.bytes.now h c.told-bytes c.requires.laid
    (subst (IsCircleChanged c.args.tracks.now _) t (changes c))
    (put_is {E = ℕ} (Ok tt) c.args.tracks.now (get_or c.args.tracks.now (c.track.result - 1) c.index-tracks-track.result) c.index-tracks-track.result c.fill_sector.new.self c.args.at c.args.bytes.now c.args.id.now c.track.result
    c.requires.count h c.track.ensures.value refl (sym c.requires.id) c.fill_sector.ensures.bits)
    (returns-clause-content c) c.requires.filled
