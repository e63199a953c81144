-- Chains that enter no sector twice.
use Rattle.std.specs.Prelude.{ℕ, zero, suc, ◌≡◌, ◌==◌, if◌then◌else◌, Bool, true, [], Option, Some, None}
use Rattle.cbm_medium.specs.Place.{Place, has}
use Rattle.cbm_medium.specs.Content.{Content}
use Rattle.cbm_medium.specs.Links.{Followed, bytes_at, ended, cut_at, with_block, followed_after}
use Rattle.cbm_medium.specs.declared.fault.Trouble.{Trouble}
use Rattle.cbm_bam.specs.Map.{with_bit}
use Rattle.cbm_bam.specs.Marks.{is_marked}
use Rattle.cbm_salvage.specs.declared.trail.Trail.{Trail}
use Rattle.cbm_salvage.specs.declared.trail.Step.{Step}

-- a sector that came already cuts the chain off with 71
abbrev pub unless_seen : Bool → Place → Followed → Followed
unless_seen seen p rest = if seen then cut_at 71 p else rest

-- WHAT FOLLOWING LINKS MEETS WHERE NO SECTOR IS ENTERED TWICE: from a place on, where this many sectors are left and these came already
unfoldable pub follow_once : ℕ → Content → ℕ → (Place → Bool) → Place → Followed
follow_once tracks content zero seen p =
    if p.track == 0 then ended [] else if has tracks p then cut_at 71 p else cut_at 66 p
follow_once tracks content (suc n) seen p =
    if p.track == 0 then ended []
    else if has tracks p then unless_seen (seen p) p (followed_after p (content p) (λ q. follow_once tracks content n (with_bit seen p true) q))
    else cut_at 66 p

-- what a trail still meets
abbrev pub trail_left : Content → Trail → Followed
trail_left content t = follow_once t.geometry content t.left (is_marked t.seen) t.next

-- A sector is given and the trail goes on after it; none is given where the chain has ended or is cut off, as is told then.
abbrev pub GivesSector : Content → Followed → Followed → Option Trouble → Option Step → Type 0
GivesSector content old new trouble (Some step) = (old ≡ with_block step.at new) × (bytes_at content step.at ≡ step.bytes)
GivesSector content old new trouble None = old ≡ record { blocks = []; trouble = trouble }
