-- Claiming sector by sector: what a sector with nothing wrong is, and that each claim leaves one less.
use Rattle.std.proofs.Common.{◌≡◌, ◌≢◌, ℕ, suc, ◌<◌, List, ◌∷◌, Bool, true, false, Some, None, Ok, refl, sym, ap, subst, ◌∙◌, arith, inl, inr}
use Rattle.std.specs.Prelude.{◌==◌, ◌&&◌, not, if◌then◌else◌, is_some}
use Rattle.cbm_medium.specs.Place.{Place, Has, has, sectors_on}
use Rattle.cbm_medium.specs.Content.{Cell, Content}
use Rattle.cbm_medium.specs.Links.{bytes_at, or_nothing, link}
use Rattle.cbm_medium.proofs.Places.{place_decide}
use Rattle.cbm_bam.specs.Map.{map_of, is_free_in, with_bit, tally, at}
use Rattle.cbm_bam.proofs.Counts.{bit_there, bit_elsewhere, tally_less, tally_same, number_less, number_same}
use Rattle.cbm_volume.specs.declared.check.unsound.Part.{Part}
use Rattle.cbm_volume.specs.declared.check.unsound.Part.TheVariants.{OfDirectory, OfFile}
use Rattle.cbm_volume.specs.declared.check.unsound.Unsound.{Unsound}
use Rattle.cbm_volume.specs.check.Claims.{reads, is_inside, outside_number, wrong_at, ClaimsChain, MeetsFault, unclaimed}

-- nothing is wrong: it lies where the part may, was not claimed, reads and is not free
pub record IsRight (part : Part) (tracks : ℕ) (content : Content) (claimed : Place → Bool) (p : Place) : Type 0 where
  pub inside : is_inside part tracks p ≡ true
  pub fresh : claimed p ≡ false
  pub reads : reads (content p) ≡ true
  pub taken : is_free_in (map_of content) p ≡ false

not_none : {A : Type 0} → (x : A) → Some x ≡ None → ⊥
not_none x h = let z = ap is_some h in cc

four : (i k r f : Bool) (n : ℕ) → (if not i then Some n else if k then Some 3 else if not r then Some 9 else if f then Some 2 else None) ≡ None
    → (i ≡ true) × (k ≡ false) × (r ≡ true) × (f ≡ false)
four false k r f n h = absurd (not_none n h)
four true true r f n h = absurd (not_none 3 h)
four true false false f n h = absurd (not_none 9 h)
four true false true true n h = absurd (not_none 2 h)
four true false true false n h = (refl, refl, refl, refl)

pub is_right : (part : Part) (tracks : ℕ) (content : Content) (claimed : Place → Bool) (p : Place) → wrong_at part tracks content claimed p ≡ None → IsRight part tracks content claimed p
is_right part tracks content claimed p h =
    let z = four (is_inside part tracks p) (claimed p) (reads (content p)) (is_free_in (map_of content) p) (outside_number part) h in
    record { inside = z.0; fresh = z.1; reads = z.2; taken = z.3 }

pub none_wrong : (part : Part) (tracks : ℕ) (content : Content) (claimed : Place → Bool) (p : Place) → IsRight part tracks content claimed p → wrong_at part tracks content claimed p ≡ None
none_wrong part tracks content claimed p h = rw h.inside (rw h.fresh (rw h.reads (rw h.taken refl)))

has_it : (tracks : ℕ) (p : Place) → has tracks p ≡ true → Has tracks p
has_it tracks p h = grind arith

pub both : (a b : Bool) → (a && b) ≡ true → (a ≡ true) × (b ≡ true)
both true true h = (refl, refl)
both true false h = absurd (let z = h in cc)
both false b h = absurd (let z = h in cc)

pub inside_has : (part : Part) (tracks : ℕ) (p : Place) → is_inside part tracks p ≡ true → Has tracks p
inside_has OfDirectory tracks p h = has_it tracks p (both (has tracks p) (p.track == 18) h).0
inside_has OfFile tracks p h = has_it tracks p (both (has tracks p) (not (p.track == 18)) h).0

pub on_18 : (tracks : ℕ) (p : Place) → is_inside OfDirectory tracks p ≡ true → p.track ≡ 18
on_18 tracks p h = let z = (both (has tracks p) (p.track == 18) h).1 in grind arith

pub off_18 : (tracks : ℕ) (p : Place) → is_inside OfFile tracks p ≡ true → p.track ≢ 18
off_18 tracks p h = let z = (both (has tracks p) (not (p.track == 18)) h).1 in λ e. grind arith

pub not_with : (f : Place → Bool) (p q : Place) → with_bit (λ x. not (f x)) p false q ≡ not (with_bit f p true q)
not_with f p q = elim (place_decide p q) [
  | inl e ↦ subst (λ (x : Place). with_bit (λ y. not (f y)) p false x ≡ not (with_bit f p true x)) e (bit_there (λ y. not (f y)) p false ∙ sym (ap not (bit_there f p true)))
  | inr ne ↦ bit_elsewhere (λ y. not (f y)) p q false ne ∙ sym (ap not (bit_elsewhere f p q true ne))
]

some : (t s : ℕ) → s < sectors_on t → t < 41
some t s h = grind arith

-- EACH CLAIM LEAVES ONE LESS
pub unclaimed_less : (part : Part) (tracks : ℕ) (claimed : Place → Bool) (p : Place) → is_inside part tracks p ≡ true → claimed p ≡ false → unclaimed part claimed ≡ suc (unclaimed part (with_bit claimed p true))
unfolding unclaimed
unclaimed_less OfDirectory tracks claimed p h f =
    let here : p.track ≡ 18 = on_18 tracks p h in
    let there : Has tracks p = inside_has OfDirectory tracks p h in
    let less = tally_less (λ q. not (claimed q)) p (sectors_on p.track) there.2 (ap not f) in
    subst (λ (t : ℕ). tally (λ q. not (claimed q)) t (sectors_on t) ≡ suc (tally (λ q. not (with_bit claimed p true q)) t (sectors_on t))) here
    (less ∙ ap suc (tally_same (with_bit (λ q. not (claimed q)) p false) (λ q. not (with_bit claimed p true q)) p.track (sectors_on p.track) (λ s k. not_with claimed p (at p.track s))))
unclaimed_less OfFile tracks claimed p h f =
    let there : Has tracks p = inside_has OfFile tracks p h in
    number_less 40 (λ q. not (claimed q)) p (there.0, omega (arith, some p.track p.sector there.2), there.2) (off_18 tracks p h) (ap not f)
    ∙ ap suc (number_same 40 (with_bit (λ q. not (claimed q)) p false) (λ q. not (with_bit claimed p true q)) (λ q k. not_with claimed p q))

-- one step of a chain that is claimed, and of one that meets a fault
pub claims_step : (part : Part) (tracks : ℕ) (content : Content) (claimed claimed2 after : Place → Bool) (a a2 : Place) (blocks : List Place) → wrong_at part tracks content claimed a ≡ None
    → claimed2 ≡ with_bit claimed a true → link (bytes_at content a) ≡ a2 → ClaimsChain part tracks content claimed2 a2 blocks after → ClaimsChain part tracks content claimed a (a ∷ blocks) after
claims_step part tracks content claimed claimed2 after a a2 blocks n e f w =
    (refl, n, subst (λ (m : Place → Bool). ClaimsChain part tracks content m (link (bytes_at content a)) blocks after) e (subst (λ (x : Place). ClaimsChain part tracks content claimed2 x blocks after) (sym f) w))

pub meets_step : (part : Part) (tracks : ℕ) (content : Content) (claimed claimed2 : Place → Bool) (u : Unsound) (a a2 : Place) (blocks : List Place) → wrong_at part tracks content claimed a ≡ None
    → claimed2 ≡ with_bit claimed a true → link (bytes_at content a) ≡ a2 → MeetsFault part tracks content claimed2 a2 blocks u → MeetsFault part tracks content claimed a (a ∷ blocks) u
meets_step part tracks content claimed claimed2 u a a2 blocks n e f w =
    (refl, n, subst (λ (m : Place → Bool). MeetsFault part tracks content m (link (bytes_at content a)) blocks u) e (subst (λ (x : Place). MeetsFault part tracks content claimed2 x blocks u) (sym f) w))

-- the link of a sector that was read
pub link_read : (content : Content) (a a2 : Place) (bytes : List ℕ) → content a ≡ Ok bytes → a2 ≡ link bytes → link (bytes_at content a) ≡ a2
link_read content a a2 bytes h e = ap (λ (cell : Cell). link (or_nothing cell)) h ∙ sym e
