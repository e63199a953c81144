use Rattle.std.proofs.Common.{◌≡◌, ◌∷◌, ap, sym, ◌∙◌, true, false, rules}
use Rattle.cbm_medium.specs.Place.{directory_head}
use Rattle.cbm_bam.specs.Marks.{is_marked, nothing}
use Rattle.cbm_place.specs.Moves.{is_open_to, are_open}
use Rattle.cbm_place.proofs.MoveParts.{open-shut, open-more}
use Rattle.cbm_place.proofs.moving.are_open.Goals as goal

pub places-init : goal.places-init
places-init g c = ap (λ u. are_open c.args.geometry ((g.M.Medium.seen c.args.medium.now).content directory_head) (is_marked c.args.own.now) u c.args.places.now) c.new-named.ensures

pub returns-then-not-is_open : goal.returns-then-not-is_open
returns-then-not-is_open g c =
    let head = (g.M.Medium.seen c.args.medium.now).content directory_head in
    let begins : c.places.left.now ≡ c.in-Some.at.now ∷ c.in-Some.rest.now = search rules in
    let shut : is_open_to c.args.geometry head (is_marked c.args.own.now) (is_marked c.places.named) c.in-Some.at.now ≡ false = search rules in
    open-shut c.args.geometry head (is_marked c.args.own.now) (is_marked c.places.named) c.in-Some.at.now c.places.left.now c.in-Some.rest.now _ c.places.invariant begins shut

pub places-preserved : goal.places-preserved
places-preserved g c =
    let head = (g.M.Medium.seen c.args.medium.now).content directory_head in
    let begins : c.places.left.now ≡ c.in-Some.at.now ∷ c.in-Some.rest.now = search rules in
    let shown : is_open_to c.args.geometry head (is_marked c.args.own.now) (is_marked c.places.named) c.in-Some.at.now ≡ true = search rules in
    open-more c.args.geometry head (is_marked c.args.own.now) (is_marked c.places.named) (is_marked c.insert.new.self) c.in-Some.at.now c.places.left.now c.in-Some.rest.now _ c.places.invariant begins shown
    c.insert.ensures
