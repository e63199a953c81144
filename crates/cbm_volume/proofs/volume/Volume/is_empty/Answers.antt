use Rattle.std.proofs.Common.{◌≡◌, ℕ, List, length, ap, subst, ◌∙◌}
use Rattle.std.specs.Prelude.{◌==◌}
use Rattle.cbm_medium.specs.Content.{Content}
use Rattle.cbm_file.specs.Files.{Disk}
use Rattle.cbm_chain.specs.Writing.{has_no_byte}
use Rattle.cbm_volume.specs.Writers.{Filling, Use, Writes, HoldsNow}
use Rattle.cbm_volume.proofs.written.Storing.{has_none}
use Rattle.cbm_volume.proofs.volume.Volume.is_empty.Goals as goal

pub returns-clause-value : goal.returns-clause-value
returns-clause-value g c =
    let medium : ℕ = (g.M.Medium.seen c.args.self.now).tracks in
    let inside : Filling = record { slot = c.writer.inside.slot; replaces = c.writer.inside.replaces; chain = c.writer.inside.chain } in
    subst (λ (w : Filling). (d : Disk) (uses : ℕ → Use) (ch : ℕ) (bytes : List ℕ) (blocks : ℕ) → HoldsNow medium (g.M.Medium.seen c.args.self.now).content d uses → uses ch ≡ Writes w bytes blocks → c.is_empty.result ≡ (length bytes == 0)) c.writer.view_is
    (subst (λ (x : Content). (d : Disk) (uses : ℕ → Use) (ch : ℕ) (bytes : List ℕ) (blocks : ℕ) → HoldsNow medium x d uses → uses ch ≡ Writes inside bytes blocks → c.is_empty.result ≡ (length bytes == 0)) (ap (λ m. (g.M.Medium.seen m).content) c.self.view_is)
    (λ d uses ch bytes blocks h e. c.is_empty.ensures ∙ has_none medium (g.M.Medium.seen c.self.inside.medium).content d uses ch inside bytes blocks c.tracks-tracks.ensures.whole h e))

pub returns-clause-holds : goal.returns-clause-holds
returns-clause-holds g c = c.is_empty.ensures ∙ ap (λ (w : Filling). has_no_byte w.chain) c.writer.view_is
