-- The disk changes, and the channels go on as they were.
use Rattle.std.proofs.Common.{◌≡◌, ℕ, ◌<◌, Bool, true, List, length, refl, sym, ap, ◌∙◌, subst, inl, inr, Option, Some, None, Result, Ok, Err, IsErrAnd}
use Rattle.std.proofs.lemmas.Bool.{eq-eqb, cases_lt}
use Rattle.std.proofs.lemmas.Bool.Decides.{eqb_tells}
use Rattle.std.proofs.lemmas.List.{get_or_past, get_or-set_same, get_or-set_other}
use Rattle.cbm_medium.specs.Seen.{Seen}
use Rattle.cbm_medium.specs.declared.fault.Trouble.{Trouble}
use Rattle.cbm_file.specs.Files.{File, Disk, file_at, with_slot}
use Rattle.cbm_medium.specs.Content.{Content}
use Rattle.cbm_volume.specs.Writers.{HoldsNow, known}
use Rattle.cbm_machine.specs.Machines.{Channel, Machine, with_disk}
use Rattle.cbm_machine.specs.Orderly.{IsReadFrom, IsPlace, IsOrderly, channel_in, still_uses}
use Rattle.cbm_machine.specs.Told.{ToldStatus}
use Rattle.cbm_channel.specs.declared.channel.Channel as kept
use Rattle.cbm_channel.specs.ChannelCalls.{KeepsElse}
use Rattle.cbm_channel.specs.Standing.{AreFit, StandsBy, uses_of}
use Rattle.cbm_channel.specs.declared.channel.Channel.TheVariants as code
use Rattle.cbm_channel.proofs.Elses.{else_after, else_refused}
use Rattle.cbm_channel.proofs.Orders.{known_is, place_there, read_there}
use Rattle.cbm_channel.proofs.Stands.{waits_on, zip_at}
use Rattle.std.specs.Prelude.{slice_index_or}

-- what a closed file holds that a channel has open stays
abbrev pub KeepsOpen : Disk → Disk → List Channel → Type 0
KeepsOpen d d' channels = (k slot : ℕ) (f : File) → still_uses slot (channel_in channels k) ≡ true → file_at d slot ≡ Some f → f.closed ≡ true → (g : File) × (file_at d' slot ≡ Some g) × (g.closed ≡ f.closed) × (g.body ≡ f.body)

orderly_on : (d d' : Disk) (p : Bool) (channels : List Channel) → IsOrderly d p channels → KeepsOpen d d' channels → IsOrderly d' p channels
orderly_on d d' p channels o keeps = record {
  reading = λ k slot left e.
      let was : IsReadFrom d slot left = o.reading k slot left e in
      let kept = keeps k slot was.file (ap (still_uses slot) e ∙ eq-eqb slot slot refl) was.in_slot was.closed in
      read_there d d' slot left was kept.0 kept.1 kept.2 kept.3;
  alone = o.alone;
  relative = λ k slot number q e.
      let was : IsPlace d slot number q = o.relative k slot number q e in
      let kept = keeps k slot was.file (ap (still_uses slot) e ∙ eq-eqb slot slot refl) was.in_slot was.closed in
      place_there d d' slot number q number q was kept.0 kept.1 kept.2 kept.3 was.number was.inside;
  writable = o.writable;
}

-- THE DRIVE STANDS FOR THE MACHINE WITH THE DISK THAT THE MEDIUM HOLDS NOW
pub with_other_disk : (t : ℕ) (c c' : Content) (p : Bool) (chs : List kept.Channel) (told : ToldStatus) (text : Option (ℕ × List ℕ)) (m : Machine) (d' : Disk) → StandsBy c t p chs told text m → HoldsNow t c' d' (uses_of chs m.channels)
    → KeepsOpen m.disk d' m.channels → StandsBy c' t p chs told text (with_disk d' m)
with_other_disk t c c' p chs told text m d' st holds keeps = record {
  holds = holds;
  orderly = orderly_on m.disk d' m.protected m.channels st.orderly keeps;
  same_tracks = st.same_tracks;
  same_protection = st.same_protection;
  each = st.each;
  waits = λ k. waits_on m.disk d' (slice_index_or chs k code.Closed) (channel_in m.channels k) (zip_at chs m.channels k st.each) (λ slot f u at shut. keeps k slot f u at shut) (st.waits k);
  same_told = st.same_told;
  same_text = st.same_text;
}

-- a slot that has a file is one of the disk's
within : (d : Disk) (n : ℕ) (f : File) → file_at d n ≡ Some f → n < length d.slots
within d n f some = elim (cases_lt n (length d.slots)) [
  | inl h ↦ h
  | inr past ↦ absurd (let z = sym some ∙ get_or_past d.slots n None past in (cc))
]

abbrev file_or : File → Option File → File
file_or f None = f
file_or f (Some g) = g

-- a slot's file is changed, but not what it holds
pub changed_keeps : (d : Disk) (n : ℕ) (f f' : File) (channels : List Channel) → file_at d n ≡ Some f → f'.closed ≡ f.closed → f'.body ≡ f.body → KeepsOpen d (with_slot d n (Some f')) channels
changed_keeps d n f f' channels some closed body = λ k slot g u at shut. elim (eqb_tells slot n) [
  | inl same ↦ (
      let e : f ≡ g = ap (file_or f) (sym some ∙ ap (file_at d) (sym same.1) ∙ at) in (
        f',
        ap (file_at (with_slot d n (Some f'))) same.1 ∙ get_or-set_same d.slots n (Some f') None (within d n f some),
        closed ∙ ap (λ (x : File). x.closed) e,
        body ∙ ap (λ (x : File). x.body) e,
      ))
  | inr other ↦ (g, get_or-set_other d.slots n slot (Some f') None other.1 ∙ at, refl, refl)
]

-- slots that no channel has open are what changes
pub known_keeps : (d d' : Disk) (channels : List Channel) → ((k slot : ℕ) → still_uses slot (channel_in channels k) ≡ true → known (file_at d' slot) ≡ known (file_at d slot)) → KeepsOpen d d' channels
known_keeps d d' channels same = λ k slot f u at shut. (f, known_is (file_at d slot) (file_at d' slot) f (same k slot u) at shut, refl, refl)

-- ---- calls that change only the content

-- one call after others that succeeded was refused, and its fault is answered
pub refused_then : (e : Trouble) (s : Result (Unit {0}) Trouble) (a b c : Seen) → IsErrAnd s (λ x. x ≡ e) → KeepsElse {A = Unit {0}} (Ok tt) a b → KeepsElse {A = Unit {0}} (Err e) b c → KeepsElse s a c
refused_then e (Ok x) a b c is h k = absurd is
refused_then e (Err x) a b c is h k = else_refused (Err e) (Err x) x a c (λ i. Err (sym is i)) (λ i. Err x) (else_after (Ok tt) tt (Err e) a b c (λ i. Ok tt) h k)

pub fits_same : (t t' : ℕ) (xs ys : List kept.Channel) → t' ≡ t → ys ≡ xs → AreFit t xs → AreFit t' ys
fits_same t t' xs ys e f h = subst (λ (x : ℕ). AreFit x ys) (sym e) (subst (AreFit t) (sym f) h)
