-- What a call leaves of the closed files: the sectors of each, and where it lies.
use Rattle.std.specs.Prelude.{ℕ, ◌<◌, ◌≡◌, Bool, true, false}
use Rattle.cbm_medium.specs.Content.{Content}
use Rattle.cbm_medium.specs.Links.{AllSame}
use Rattle.cbm_directory.specs.Entries.{is_closed, entry_at}
use Rattle.cbm_volume.specs.Layouts.{Layout, slot_count, Sound, Untouched}

-- THE CLOSED FILE OF A SLOT LIES WHERE IT LAY: the slot is there and still closed, its file has the same blocks and side sectors, and
-- these hold the same bytes.
pub record IsInPlace (c c' : Content) (l l' : Layout) (m : ℕ) : Type 0 where
  pub there : m < slot_count l'
  pub closed : is_closed (entry_at c' l'.directory m) ≡ true
  pub blocks : l'.files m ≡ l.files m
  pub same : AllSame c c' (l.files m).data_blocks × AllSame c c' (l.files m).sides

-- EACH CLOSED FILE STAYS IN PLACE, but for those in slots that pass the test: wherever the first content and the second, on a disk of
-- however many tracks, are sound. So what two calls leave, one after another, is said of both.
abbrev pub StaysInPlace : ℕ → Content → Content → (ℕ → Bool) → Type 0
StaysInPlace tracks c c' but =
    (tracks' : ℕ) (l l' : Layout) → Sound tracks c l → Sound tracks' c' l' → (m : ℕ) → m < slot_count l → is_closed (entry_at c l.directory m) ≡ true → but m ≡ false → IsInPlace c c' l l' m

-- WHAT A CALL LEAVES OF THE CLOSED FILES: the sectors of each are as they were, but for the files in slots that pass the first test,
-- and each stays in place, but for those that pass the second.
pub record LeavesClosed (tracks : ℕ) (c c' : Content) (changed moved : ℕ → Bool) : Type 0 where
  pub untouched : Untouched tracks c c' changed
  pub stays : StaysInPlace tracks c c' moved
