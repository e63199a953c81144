use Rattle.std.proofs.Common.{◌≡◌, false, rules, to_z, of_z, w32}
use Rattle.cbm_machine.specs.Machines.{start}
use Rattle.cbm_image.specs.Images.{kind_of, tracks_of}
use Rattle.cbm_shell.specs.Listing.{IsSent}
use Rattle.cbm_device.specs.Answers.{answer}
use Rattle.cbm_device.specs.Looking.{IsAccepted, IsLookRefused, IsUnsent}
use Rattle.cbm_device.proofs.Giving.{gives}
use Rattle.yellowadze1541.proofs.images.y1541_image_list.Goals as goal

pub returns-clause-sent : goal.returns-clause-sent
returns-clause-sent c = λ d h.
    let n = to_z w32 (of_z w32 c.number.result) in
    let same : n ≡ answer c.given.result = search rules in
    let m = start d false (tracks_of (kind_of c.args.image.now) c.args.image.now) in
    gives (λ v. v.items) (IsSent c.args.pattern.now m) (IsUnsent c.args.image.now c.args.pattern.now m) c.list.result c.given.result n c.args.out.now c.given.new.out c.args.needed.now
    c.given.new.needed (c.list.ensures.sent d h) c.given.ensures same

pub returns-clause-refused : goal.returns-clause-refused
returns-clause-refused c =
    let n = to_z w32 (of_z w32 c.number.result) in
    let same : n ≡ answer c.given.result = search rules in
    gives (λ v. v.items) (λ _. IsAccepted c.args.image.now) (IsLookRefused c.args.image.now) c.list.result c.given.result n c.args.out.now c.given.new.out c.args.needed.now
    c.given.new.needed c.list.ensures.refused c.given.ensures same
