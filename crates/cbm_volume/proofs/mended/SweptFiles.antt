-- VALIDATE writes the directory and the map alone: the closed files stay in place, and their sectors are as they were.
use Rattle.std.proofs.Common.{ℕ, List, get_or, ◌≡◌, Result, Ok, Err, refl, sym, ap, ◌∙◌, arith, inl, inr}
use Rattle.std.proofs.lemmas.Bool.{cases_lt}
use Rattle.std.specs.Prelude.{OnOk, OnErr, false}
use Rattle.cbm_medium.specs.Place.{Place, directory_head}
use Rattle.cbm_medium.specs.Content.{Content, written}
use Rattle.cbm_medium.specs.declared.fault.Trouble.{Trouble}
use Rattle.cbm_directory.specs.Entries.{entry_at, first_directory}
use Rattle.cbm_file.specs.Files.{Disk}
use Rattle.cbm_bam.specs.Map.{geometry_of}
use Rattle.cbm_volume.specs.Staying.{LeavesClosed}
use Rattle.cbm_volume.specs.Sweeps.{IsDirectoryChain, IsSwept}
use Rattle.cbm_volume.specs.Writers.{Use, HoldsNow}
use Rattle.cbm_volume.proofs.mended.Mended.{of_directory}
use Rattle.cbm_volume.proofs.opened.OpenedFiles.{untouched_by}
use Rattle.cbm_volume.proofs.layouts.Chained.{chain_reads}
use Rattle.cbm_volume.proofs.layouts.Staying.{KeepsClosed, leads_same, kept_same, kept_then, kept_mapped}
use Rattle.cbm_volume.proofs.layouts.Untouched.{is_file}
use Rattle.cbm_volume.proofs.mended.Validates.{apart_from, SweptAll}

-- some slots were swept: an entry that is closed stays
swept_files : (medium : ℕ) (c c1 : Content) (d : Disk) (uses : ℕ → Use) (h : HoldsNow medium c d uses) → ((xs : List Place) → IsDirectoryChain (geometry_of medium c) c xs → (k : ℕ) × IsSwept c c1 xs k) → KeepsClosed h.layout c c1 (λ m. false)
swept_files medium c c1 d uses h swept = record {
  files = λ p f. w.1.elsewhere p (apart_from h.layout.owner p h.layout.directory (λ e. (let z = sym f ∙ ap is_file e in cc)) h.so.stands.sound.owned.directory);
  entries = record {
    links = λ i k. (w.1.links (get_or h.layout.directory i directory_head) (chain_reads (geometry_of medium c) c first_directory h.layout.directory i directory_head h.so.stands.sound.directory (omega arith))).1;
    entries = λ m k e z. leads_same (entry_at c h.layout.directory m) (entry_at c1 h.layout.directory m) (elim (cases_lt m w.0) [
      | inl before ↦ (w.1.before m k before).closed z
      | inr afterwards ↦ w.1.afterwards m k afterwards
    ]);
  };
}
  where
    w : (k : ℕ) × IsSwept c c1 h.layout.directory k
    w = swept h.layout.directory (of_directory (geometry_of medium c) c h.layout h.so.stands.sound)

pub swept_spared : (medium : ℕ) (c c1 : Content) (d : Disk) (uses : ℕ → Use) → HoldsNow medium c d uses → ((xs : List Place) → IsDirectoryChain (geometry_of medium c) c xs → (k : ℕ) × IsSwept c c1 xs k) → LeavesClosed (geometry_of medium c) c c1 (λ m. false) (λ m. false)
swept_spared medium c c1 d uses h swept = untouched_by medium c c1 d uses h (swept_files medium c c1 d uses h swept)

-- nothing was written
pub none_swept : (medium : ℕ) (c : Content) (d : Disk) (uses : ℕ → Use) → HoldsNow medium c d uses → LeavesClosed (geometry_of medium c) c c (λ m. false) (λ m. false)
none_swept medium c d uses h = untouched_by medium c c d uses h (kept_same h.layout c c (λ m. false) refl)

-- all were swept, and the map was written or refused
pub ends_spared : (medium : ℕ) (c c1 c2 : Content) (map : List ℕ) (r : Result (Unit {0}) Trouble) (d : Disk) (uses : ℕ → Use) → HoldsNow medium c d uses → OnOk r (c2 ≡ written c1 directory_head map) → OnErr r (c2 ≡ c1)
    → SweptAll (geometry_of medium c) c c1 → LeavesClosed (geometry_of medium c) c c2 (λ m. false) (λ m. false)
ends_spared medium c c1 c2 map r d uses h ok err swept =
    untouched_by medium c c2 d uses h (kept_then h.layout c c1 c2 (λ m. false) (swept_files medium c c1 d uses h (λ xs k. (144, swept xs k))) (by_result r ok err))
  where
    by_result : (r : Result (Unit {0}) Trouble) → OnOk r (c2 ≡ written c1 directory_head map) → OnErr r (c2 ≡ c1) → KeepsClosed h.layout c1 c2 (λ m. false)
    by_result (Ok x) ok err = kept_mapped h.layout c1 c2 map (λ m. false) h.so.stands.sound.owned ok
    by_result (Err t) ok err = kept_same h.layout c1 c2 (λ m. false) err
