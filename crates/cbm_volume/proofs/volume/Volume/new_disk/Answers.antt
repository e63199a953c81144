use Rattle.std.proofs.Common.{◌≡◌, ap, subst, ◌∙◌, ℕ}
use Rattle.std.specs.Prelude.{OnOk, OnErr, IfErr}
use Rattle.cbm_medium.specs.Content.{blank}
use Rattle.cbm_medium.specs.Seen.{Seen, with_content, formatted_as, OnlyContent}
use Rattle.cbm_file.specs.Files.{Disk}
use Rattle.cbm_file.specs.Changes.{new_disk}
use Rattle.cbm_volume.specs.Holding.{HoldsDisk}
use Rattle.cbm_volume.specs.NewDisks.{IsEmptied, IsNewOrNothing, id_after, content_under}
use Rattle.cbm_volume.specs.Opens.{IsHindered}
use Rattle.cbm_volume.specs.Writers.{Use, Idle, HoldsNow}
use Rattle.cbm_volume.proofs.formatted.NewDisks.{no_id, emptied_short, emptied_long, made_short, made_long, made_idle, head_writable, first_writable, only_short, only_long}
use Rattle.cbm_volume.proofs.formatted.StoppedNews.{stopped_short, stopped_long}
use Rattle.cbm_volume.proofs.volume.Volume.new_disk.Goals as goal
use Rattle.cbm_volume.proofs.volume.Volume.new_disk.Given.{Over}

-- the medium of the volume, as the call finds it
found : (g : Over) (c : goal.After-write_new g) → g.M.Medium.seen c.self.inside.medium ≡ g.M.Medium.seen c.args.self.now
found g c = ap (λ m. g.M.Medium.seen m) c.self.view_is

pub returns-in_default-clause-made : goal.returns-in_default-clause-made
returns-in_default-clause-made g c =
    subst (λ (s : Seen). (d : Disk) (uses : ℕ → Use) → HoldsNow s.tracks s.content d uses → ((ch : ℕ) → uses ch ≡ Idle) → OnOk c.write_new.result (HoldsNow s.tracks (g.M.Medium.seen c.write_new.new.medium).content (new_disk s.tracks c.args.title.now c.args.id d) uses)) (found g c)
    (made_short c.write_new.result (g.M.Medium.seen c.self.inside.medium).tracks c.args.title.now c.in_ok-id.id c.args.id (g.M.Medium.seen c.self.inside.medium).content (g.M.Medium.seen c.write_new.new.medium).content
    c.write_new.ensures.either (λ p e f. g.met.M.Medium.outer_headers c.self.inside.medium p e f) (no_id c.args.id c.in_default.not-Some) c.in_ok-id.ensures.ok c.write_new.ensures.emptied)

pub returns-in_default-clause-cause : goal.returns-in_default-clause-cause
returns-in_default-clause-cause g c =
    subst (λ (s : Seen). (d : Disk) (uses : ℕ → Use) → HoldsNow s.tracks s.content d uses → IfErr c.write_new.result (IsHindered s (g.M.Medium.seen c.write_new.new.medium))) (found g c)
    (λ d uses h. c.write_new.ensures.cause (head_writable (g.M.Medium.seen c.self.inside.medium).tracks (g.M.Medium.seen c.self.inside.medium).content d uses h)
    (first_writable (g.M.Medium.seen c.self.inside.medium).tracks (g.M.Medium.seen c.self.inside.medium).content d uses h))

-- a disk that was just formatted
is_formatted : (g : Over) (c : goal.After-write_new-2 g) → g.M.Medium.seen c.format.new.self ≡ formatted_as c.in-Some.id (with_content blank (g.M.Medium.seen c.args.self.now))
is_formatted g c = c.in_ok-format.ensures.ok ∙ ap (λ m. formatted_as c.in-Some.id (with_content blank (g.M.Medium.seen m))) c.self.view_is

-- after a format the medium holds the disk, whatever it held
formatted : (g : Over) (c : goal.After-write_new-2 g) → (d : Disk)
    → OnOk c.write_new-2.result (HoldsDisk (g.M.Medium.seen c.args.self.now).tracks (g.M.Medium.seen c.write_new-2.new.medium).content (new_disk (g.M.Medium.seen c.args.self.now).tracks c.args.title.now c.args.id d))
formatted g c =
    made_long c.write_new-2.result (g.M.Medium.seen c.args.self.now) (g.M.Medium.seen c.format.new.self) (g.M.Medium.seen c.write_new-2.new.medium).content c.args.title.now c.in-Some.id c.args.id
    (is_formatted g c) c.write_new-2.ensures.either c.in-Some.is c.write_new-2.ensures.emptied

pub returns-clause-made : goal.returns-clause-made
returns-clause-made g c = λ d uses h idle.
    made_idle c.write_new-2.result (g.M.Medium.seen c.args.self.now).tracks (g.M.Medium.seen c.write_new-2.new.medium).content
    (new_disk (g.M.Medium.seen c.args.self.now).tracks c.args.title.now c.args.id d) uses (formatted g c d) idle

pub returns-clause-formatted : goal.returns-clause-formatted
returns-clause-formatted g c = λ some d. formatted g c d

pub returns-in_default-clause-emptied : goal.returns-in_default-clause-emptied
returns-in_default-clause-emptied g c =
    subst (λ (s : Seen). OnOk c.write_new.result (IsEmptied s.tracks c.args.title.now (id_after c.args.id s.content) (content_under c.args.id s.content) (g.M.Medium.seen c.write_new.new.medium).content)) (found g c)
    (emptied_short c.write_new.result (g.M.Medium.seen c.self.inside.medium) (g.M.Medium.seen c.write_new.new.medium).content c.args.title.now c.in_ok-id.id c.args.id
    (no_id c.args.id c.in_default.not-Some) c.in_ok-id.ensures.ok c.write_new.ensures.emptied)

pub returns-clause-emptied : goal.returns-clause-emptied
returns-clause-emptied g c =
    emptied_long c.write_new-2.result (g.M.Medium.seen c.args.self.now) (g.M.Medium.seen c.format.new.self) (g.M.Medium.seen c.write_new-2.new.medium).content c.args.title.now c.in-Some.id c.args.id
    (is_formatted g c) c.in-Some.is c.write_new-2.ensures.emptied

-- ---- nothing else is changed

pub returns-in_default-clause-only : goal.returns-in_default-clause-only
returns-in_default-clause-only g c =
    only_short c.write_new.result c.args.id (g.M.Medium.seen c.args.self.now) (g.M.Medium.seen c.write_new.new.medium) (no_id c.args.id c.in_default.not-Some)
    (subst (λ (s : Seen). OnlyContent 18 c.write_new.result s (g.M.Medium.seen c.write_new.new.medium)) (found g c) c.write_new.ensures.only)

pub returns-clause-only : goal.returns-clause-only
returns-clause-only g c =
    only_long c.write_new-2.result c.in-Some.id c.args.id (g.M.Medium.seen c.args.self.now) (g.M.Medium.seen c.format.new.self) (g.M.Medium.seen c.write_new-2.new.medium) (is_formatted g c) c.in-Some.is c.write_new-2.ensures.only

-- ---- where it was stopped

pub returns-in_default-clause-stopped : goal.returns-in_default-clause-stopped
returns-in_default-clause-stopped g c =
    subst (λ (s : Seen). (d : Disk) (uses : ℕ → Use) → HoldsNow s.tracks s.content d uses → ((ch : ℕ) → uses ch ≡ Idle) → OnErr c.write_new.result (IsNewOrNothing s.tracks s.content (g.M.Medium.seen c.write_new.new.medium).content)) (found g c)
    (λ d uses h idle. stopped_short c.write_new.result (g.M.Medium.seen c.self.inside.medium).tracks (g.M.Medium.seen c.self.inside.medium).content (g.M.Medium.seen c.write_new.new.medium).content c.write_new.ensures.stopped d uses h)

pub returns-in_default-clause-stopped_format : goal.returns-in_default-clause-stopped_format
returns-in_default-clause-stopped_format g c = λ some. absurd (some (no_id c.args.id c.in_default.not-Some))

-- of a disk that was formatted
formatted_stop : (g : Over) (c : goal.After-write_new-2 g) → OnErr c.write_new-2.result (IsNewOrNothing (g.M.Medium.seen c.args.self.now).tracks (g.M.Medium.seen c.args.self.now).content (g.M.Medium.seen c.write_new-2.new.medium).content)
formatted_stop g c =
    stopped_long c.write_new-2.result (g.M.Medium.seen c.args.self.now).tracks (g.M.Medium.seen c.args.self.now).content (g.M.Medium.seen c.format.new.self).content (g.M.Medium.seen c.write_new-2.new.medium).content
    (ap (λ (s : Seen). s.content) (is_formatted g c)) c.write_new-2.ensures.stopped

pub returns-clause-stopped : goal.returns-clause-stopped
returns-clause-stopped g c = λ d uses h idle. formatted_stop g c

pub returns-clause-stopped_format : goal.returns-clause-stopped_format
returns-clause-stopped_format g c = λ some. formatted_stop g c
