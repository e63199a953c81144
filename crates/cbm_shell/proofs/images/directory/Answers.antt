use Rattle.std.proofs.Common.{subst}
use Rattle.std.specs.Prelude.{MatchResult}
use Rattle.cbm_machine.specs.Machines.{start}
use Rattle.cbm_image.specs.AnyDisks.{any_seen}
use Rattle.cbm_shell.specs.Listing.{IsListing, IsUnlisted}
use Rattle.cbm_shell.specs.Images.{IsHidden}
use Rattle.cbm_shell.proofs.ImageLemmas.{opened_holds, same_start, or_open_fault}
use Rattle.cbm_shell.proofs.images.directory.Goals as goal

pub returns : goal.returns
returns c = λ d h.
    let seen = any_seen c.in_ok-dos.dos.medium in
    let opened = c.in_ok-dos.ensures.medium in
    let m = start d seen.protected seen.tracks in
    let stands = c.in_ok-dos.ensures.stands d (opened_holds c.args.image.now seen d opened h) in
    subst (λ m. MatchResult c.list.result (λ v. IsListing c.args.charset c.args.pattern.now m v.items) (IsHidden c.args.image.now c.args.pattern.now m)) (same_start c.args.image.now seen d opened)
    (or_open_fault c.args.image.now c.list.result (λ v. IsListing c.args.charset c.args.pattern.now m v.items) (IsUnlisted c.args.pattern.now m) (λ n h. h) (c.list.ensures.sent m stands))
