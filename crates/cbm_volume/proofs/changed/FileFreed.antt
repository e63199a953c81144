-- All sectors of a closed file are given back: its blocks, then its side sectors.
use Rattle.std.proofs.Common.{◌≡◌, ℕ, ◌≤◌, List, [], ◌∷◌, ◌++◌, length, Bool, false, true, Some, Ok, Err, Result, IsOk, refl, sym, ap, subst, ◌∙◌}
use Rattle.std.specs.Prelude.{if◌then◌else◌, OnOk}
use Rattle.cbm_medium.specs.Place.{Place, Has, sector_count}
use Rattle.cbm_medium.specs.Content.{Cell, Content}
use Rattle.cbm_medium.specs.Links.{bytes_at, or_nothing, Followed, follow}
use Rattle.cbm_medium.specs.declared.fault.Trouble.{Trouble}
use Rattle.cbm_medium.proofs.Walks.{chain_followed}
use Rattle.cbm_bam.specs.Map.{Frees}
use Rattle.cbm_relfile.specs.SideSectors.{AllHave, Numbered, sides_listed}
use Rattle.cbm_directory.specs.Entries.{is_relative, first_block, first_side, width_of}
use Rattle.cbm_volume.specs.Blocks.{Blocks, LiesAs}
use Rattle.cbm_volume.specs.Led.{FreesFile}
use Rattle.cbm_volume.proofs.layouts.Releases.{FreesFrom}
use Rattle.cbm_volume.proofs.relative.Scratched.{lies_closed}

-- one list after another
frees_join : (tracks : ℕ) (xs ys : List Place) (old mid new : List ℕ) → Frees tracks old xs mid → Frees tracks mid ys new → Frees tracks old (xs ++ ys) new
frees_join tracks [] ys old mid new h k = subst (λ (m : List ℕ). Frees tracks m ys new) h k
frees_join tracks (x ∷ xs) ys old mid new h k = (h.0, h.1, frees_join tracks xs ys h.0 mid new h.2 k)

-- the chain of a file that lies so doesn't break off
pub no_cut : (r : Bool) (tracks : ℕ) (c : Content) (e : List ℕ) (b : Blocks) (p : Place) (t : Trouble) → LiesAs true r tracks c e b → length b.data_blocks ≤ sector_count tracks → p ≡ first_block e → (follow tracks c (sector_count tracks) p).trouble ≡ Some t → ⊥
no_cut r tracks c e b p t lies few at z =
    let followed = chain_followed tracks c b.data_blocks (sector_count tracks) (first_block e) (lies_closed r tracks c e b lies).chain few in
    let y = sym (ap (λ (x : Followed). x.trouble) followed) ∙ ap (λ (q : Place). (follow tracks c (sector_count tracks) q).trouble) (sym at) ∙ z in cc

-- its blocks were given back
chain_freed : (r : Bool) (tracks : ℕ) (c : Content) (e : List ℕ) (b : Blocks) (p : Place) (old new : List ℕ) → LiesAs true r tracks c e b → length b.data_blocks ≤ sector_count tracks → p ≡ first_block e
    → Frees tracks old (follow tracks c (sector_count tracks) p).blocks new → Frees tracks old b.data_blocks new
chain_freed r tracks c e b p old new lies few at h =
    let followed = chain_followed tracks c b.data_blocks (sector_count tracks) (first_block e) (lies_closed r tracks c e b lies).chain few in
    subst (λ (xs : List Place). Frees tracks old xs new) (ap (λ (q : Place). (follow tracks c (sector_count tracks) q).blocks) at ∙ ap (λ (x : Followed). x.blocks) followed) h

-- a file without records has no more
pub plain_freed : (r : Bool) (tracks : ℕ) (c : Content) (e : List ℕ) (b : Blocks) (p : Place) (old new : List ℕ) → r ≡ false → LiesAs true r tracks c e b → length b.data_blocks ≤ sector_count tracks → p ≡ first_block e
    → Frees tracks old (follow tracks c (sector_count tracks) p).blocks new → Frees tracks old (b.data_blocks ++ b.sides) new
plain_freed true tracks c e b p old new is lies few at h = absurd (cc)
plain_freed false tracks c e b p old new is lies few at h = frees_join tracks b.data_blocks b.sides old new new (chain_freed false tracks c e b p old new lies few at h)
    (subst (λ (xs : List Place). Frees tracks new xs new) (sym lies.1) refl)

-- the first side sector of a file with records reads, and lists sectors of the disk
pub record ListsSides (tracks : ℕ) (c : Content) (p : Place) (b : Blocks) : Type 0 where
  pub has : Has tracks p
  pub head : List ℕ
  pub reads : c p ≡ Ok head
  pub all : AllHave tracks (sides_listed head)
  pub listed : b.sides ≡ sides_listed (bytes_at c p)

bytes_are : (x : Cell) → IsOk x → x ≡ Ok (or_nothing x)
bytes_are (Ok head) h = refl
bytes_are (Err t) h = absurd (cc)

pub lists_sides : (r : Bool) (tracks : ℕ) (c : Content) (e : List ℕ) (b : Blocks) (p : Place) → r ≡ true → LiesAs true r tracks c e b → p ≡ first_side e → ListsSides tracks c p b
lists_sides false tracks c e b p is lies at = absurd (cc)
lists_sides true tracks c e b p is lies at =
    let first = subst (λ (xs : List Place). Numbered tracks c (width_of e) 0 xs) lies.1.first.1 lies.1.numbered in
    let listed : b.sides ≡ sides_listed (bytes_at c p) = lies.1.listed ∙ ap (λ (q : Place). sides_listed (bytes_at c q)) (sym at) in
    record {
      has = subst (λ (q : Place). Has tracks q) (sym at) first.0;
      head = bytes_at c p;
      reads = bytes_are (c p) (subst (λ (q : Place). IsOk (c q)) (sym at) first.1);
      all = subst (λ (xs : List Place). AllHave tracks xs) listed (lies_closed true tracks c e b lies).sides_are;
      listed = listed;
    }

-- both were given back
pub both_freed : (tracks : ℕ) (c : Content) (e : List ℕ) (b : Blocks) (r : Bool) (p q : Place) (old mid new : List ℕ) (result : Result (Unit {0}) Trouble) → r ≡ true → LiesAs true r tracks c e b → length b.data_blocks ≤ sector_count tracks → p ≡ first_block e → q ≡ first_side e
    → Frees tracks old (follow tracks c (sector_count tracks) p).blocks mid → OnOk result (Frees tracks mid (sides_listed (bytes_at c q)) new)
    → ((head : List ℕ) → Has tracks q → c q ≡ Ok head → AllHave tracks (sides_listed head) → IsOk result) → IsOk result × Frees tracks old (b.data_blocks ++ b.sides) new
both_freed tracks c e b r p q old mid new result is lies few at side h k goes =
    let s : ListsSides tracks c q b = lists_sides r tracks c e b q is lies side in
    let ok : IsOk result = goes s.head s.has s.reads s.all in
    (ok, frees_join tracks b.data_blocks b.sides old mid new (chain_freed r tracks c e b p old mid lies few at h) (subst (λ (xs : List Place). Frees tracks mid xs new) (sym s.listed) (by_result result ok k)))
  where
    by_result : (x : Result (Unit {0}) Trouble) → IsOk x → OnOk x (Frees tracks mid (sides_listed (bytes_at c q)) new) → Frees tracks mid (sides_listed (bytes_at c q)) new
    by_result (Ok y) h f = f
    by_result (Err t) h f = absurd (cc)

-- ---- on any disk

-- a file without records has no more
pub plain_given : (tracks : ℕ) (c : Content) (e : List ℕ) (p : Place) (old new : List ℕ) → is_relative e ≡ false → p ≡ first_block e → FreesFrom tracks c p old new → FreesFile tracks c e old new
plain_given tracks c e p old new plain at h =
    let freed : FreesFrom tracks c (first_block e) old new = subst (λ (q : Place). FreesFrom tracks c q old new) at h in
    let blocks : List Place = (follow tracks c (sector_count tracks) (first_block e)).blocks in
    record {
      whole = (freed.0, λ is. (let z = sym is ∙ plain in absurd (cc)));
      given = subst (λ (b : Bool). Frees tracks old (blocks ++ (if b then sides_listed (bytes_at c (first_side e)) else [])) new) (sym plain) (frees_join tracks blocks [] old new new freed.1 refl);
    }

-- and of a relative one the side sectors after them
pub both_given : (tracks : ℕ) (c : Content) (e : List ℕ) (p q : Place) (old mid new : List ℕ) (r : Result (Unit {0}) Trouble) → is_relative e ≡ true → p ≡ first_block e → q ≡ first_side e → FreesFrom tracks c p old mid
    → OnOk r (Frees tracks mid (sides_listed (bytes_at c q)) new) → OnOk r (IsOk (c q)) → OnOk r (FreesFile tracks c e old new)
both_given tracks c e p q old mid new (Err t) is at side h sides reads = tt
both_given tracks c e p q old mid new (Ok x) is at side h sides reads =
    let freed : FreesFrom tracks c (first_block e) old mid = subst (λ (p : Place). FreesFrom tracks c p old mid) at h in
    let blocks : List Place = (follow tracks c (sector_count tracks) (first_block e)).blocks in
    let listed : List Place = sides_listed (bytes_at c (first_side e)) in
    record {
      whole = (freed.0, λ is. subst (λ (q : Place). IsOk (c q)) side reads);
      given = subst (λ (b : Bool). Frees tracks old (blocks ++ (if b then listed else [])) new) (sym is)
          (frees_join tracks blocks listed old mid new freed.1 (subst (λ (q : Place). Frees tracks mid (sides_listed (bytes_at c q)) new) side sides));
    }
