-- After a byte that isn't the last another one waits, on any disk.
use Rattle.std.proofs.Common.{◌≡◌, ℕ, zero, suc, ◌+◌, ◌≤◌, ◌<◌, Bool, true, false, List, [], ◌∷◌, ◌++◌, length, drop, Option, Some, None, refl, sym, ap, subst, ◌∙◌, arith}
use Rattle.std.specs.Prelude.{IsSome, MatchBool, Result, Ok, Err, ◌==◌, slice_index_or, slice_set, if◌then◌else◌}
use Rattle.std.proofs.lemmas.Bool.{lt-ltb, false≢true}
use Rattle.cbm_file.specs.Waiting.{next_shown}
use Rattle.cbm_listing.specs.Listed as listed
use Rattle.cbm_medium.proofs.Walks.{follow_end}
use Rattle.cbm_medium.specs.declared.fault.Trouble.{Trouble}
use Rattle.cbm_medium.specs.Content.{Content}
use Rattle.cbm_chain.specs.Reading.{RestOfFile, Reading, held_from, held_in, rest_of, one_less, IsSettled}
use Rattle.cbm_machine.specs.Statuses.{status_line}
use Rattle.cbm_machine.specs.Told.{ToldStatus, next_told, after_the_next}
use Rattle.cbm_channel.specs.declared.channel.Channel.{Channel}
use Rattle.cbm_channel.specs.declared.channel.Channel.TheVariants as code
use Rattle.cbm_channel.specs.declared.on_record.Waiting.{Waiting}
use Rattle.cbm_channel.specs.declared.on_record.Waiting.TheVariants as waits
use Rattle.cbm_channel.specs.Placed.{Placed, IsMoved, IsPlacedAt, is_broken, is_last_filled, shown_at}
use Rattle.cbm_channel.specs.Shown.{shown_on}
use Rattle.cbm_channel.specs.Standing.{FitsTracks}
use Rattle.cbm_channel.specs.Taken.{IsTakenBy}
use Rattle.cbm_channel.proofs.Asked.{below_15}
use Rattle.cbm_channel.proofs.Changed.{set_now}
use Rattle.cbm_channel.proofs.Stands.{any_default}

-- a byte that isn't the last is no last one
abbrev last_in : Option (ℕ × Bool) → Bool
last_in None = false
last_in (Some said) = said.1

not_last : (a b : ℕ) → ◌≡◌ {A = Option (ℕ × Bool)} (Some (a, true)) (Some (b, false)) → ⊥
not_last a b e = false≢true (sym (ap last_in e))

some_shown : (bytes : List ℕ) → (bytes ≡ [] → ⊥) → IsSome (next_shown bytes)
some_shown [] h = absurd (h refl)
some_shown (b ∷ []) h = refl
some_shown (b ∷ c ∷ rest) h = refl

-- of a line of which some were taken
line_more : (line : List ℕ) (told n : ℕ) → next_shown (drop told line) ≡ Some (n, false) → IsSome (next_shown (drop (told + 1) line)) × (told + 1 < length line)
line_more [] zero n e = absurd cc
line_more [] (suc told) n e = absurd cc
line_more (b ∷ []) zero n e = absurd (not_last b n e)
line_more (b ∷ c ∷ line) zero n e = (some_shown (c ∷ line) (λ z. absurd cc), omega arith)
line_more (b ∷ line) (suc told) n e =
    let rest = line_more line told n e in
    let same : suc (told + 1) ≡ suc told + 1 = omega arith in
    (subst (λ t. IsSome (next_shown (drop t (b ∷ line)))) same rest.0, omega (arith, rest.1))

pub told_more : (t : ToldStatus) (n : ℕ) → next_told t ≡ Some (n, false) → IsSome (next_told (after_the_next t))
told_more t n e =
    let more = line_more (status_line t.status) t.told n e in
    rw (lt-ltb (t.told + 1) (length (status_line t.status)) more.1) more.0

-- of a listing
listing_more : (l : listed.ListedBytes) (n : ℕ) → next_shown (drop l.taken l.bytes) ≡ Some (n, false) → IsSome (shown_on (code.Listing (listed.with_next_taken l)))
listing_more l n e =
    let more = line_more l.bytes l.taken n e in
    let lt : l.taken < length l.bytes = (let past = more.1 in omega (arith, past)) in
    rw (lt-ltb l.taken (length l.bytes) lt) more.0

-- of a file's bytes, with what is still after them
two_left : (bytes more : List ℕ) (n : ℕ) → next_shown bytes ≡ Some (n, false) → drop 1 (bytes ++ more) ≡ [] → ⊥
two_left [] more n e z = absurd cc
two_left (b ∷ []) more n e z = not_last b n e
two_left (b ∷ c ∷ rest) more n e z = absurd cc

rest_left : (c : Content) (r : Reading) (n : ℕ) → next_shown r.bytes ≡ Some (n, false) → drop 1 (rest_of c r).bytes ≡ [] → ⊥
unfolding rest_of
rest_left c r n e z = two_left r.bytes (held_from r.tracks c r.left r.next).bytes n e z

-- where nothing waits nothing is left
none_left : (c : Content) (s : Reading) → IsSettled s → s.bytes ≡ [] → (rest_of c s).bytes ≡ []
unfolding rest_of held_from
none_left c s settled e =
    let short : length s.bytes ≤ 1 = rw e (omega arith) in
    ap (λ f. s.bytes ++ (held_in c f).bytes) (follow_end s.tracks c s.left s.next (settled short)) ∙ ap (λ (t : List ℕ). t ++ []) e

file_more : (c : Content) (r s : Reading) (n : ℕ) → IsSettled s → rest_of c s ≡ one_less (rest_of c r) → next_shown r.bytes ≡ Some (n, false) → IsSome (next_shown s.bytes)
file_more c r s n settled e said = some_shown s.bytes (λ none. rest_left c r n said (sym (ap (λ (q : RestOfFile). q.bytes) e) ∙ none_left c s settled none))

-- of a record
record_more : (r s : Placed) (w : Waiting) (result : Result (Unit {0}) Trouble) (n : ℕ) → r.waiting ≡ w → shown_at w r.position ≡ Some (n, false) → IsMoved w r s result → IsSome (shown_at s.waiting s.position)
record_more r s waits.Absent result n w e h = absurd (not_last _ n e)
record_more r s waits.Broken result n w e h = absurd cc
record_more r s (waits.Record x) (Err t) n w e h = absurd (let over = h.0 in let not_over : is_last_filled x.items r.position ≡ false = ap last_in e in cc)
record_more r s (waits.Record x) (Ok u) n w e h =
    let not_over : is_last_filled x.items r.position ≡ false = ap last_in e in
    let on : s ≡ record r { position = r.position + 1 } =
    subst (λ (b : Bool). MatchBool b (IsPlacedAt r s (r.number + 1) 1 × (is_broken s.waiting ≡ false)) (s ≡ record r { position = r.position + 1 })) not_over h in
    subst (λ (q : Placed). IsSome (shown_at q.waiting q.position)) (sym on) (subst (λ (v : Waiting). IsSome (shown_at v (r.position + 1))) (sym w) refl)

-- ON A CHANNEL
channel_more : (tracks : ℕ) (c : Content) (old new : Channel) (result : Result (Unit {0}) Trouble) (n : ℕ) → FitsTracks tracks new → IsTakenBy c old new result → shown_on old ≡ Some (n, false) → IsSome (shown_on new)
channel_more tracks c code.Closed new result n fits h e = absurd cc
channel_more tracks c (code.Writing w full) new result n fits h e = absurd cc
channel_more tracks c (code.Stopped slot) new result n fits h e = absurd cc
channel_more tracks c (code.Listing l) new (Ok u) n fits h e = subst (λ (k : Channel). IsSome (shown_on k)) (sym h) (listing_more l n e)
channel_more tracks c (code.Listing l) new (Err t) n fits h e = absurd h
channel_more tracks c (code.File slot r) new (Ok u) n fits h e =
    let settled : FitsTracks tracks (code.File slot h.0) = subst (FitsTracks tracks) h.1 fits in
    subst (λ (k : Channel). IsSome (shown_on k)) (sym h.1) (file_more c r h.0 n settled.1 h.2 e)
channel_more tracks c (code.File slot r) new (Err t) n fits h e =
    subst (λ (k : Channel). IsSome (shown_on k)) (sym h.1) (some_shown h.0.bytes (λ none. rest_left c r n e (sym h.3 ∙ none)))
channel_more tracks c (code.Records r) new result n fits h e =
    subst (λ (k : Channel). IsSome (shown_on k)) (sym h.1) (record_more r h.0 r.waiting result n refl e h.2)

-- what a drive shows on a channel of this number
abbrev pub shown_of : ℕ → ToldStatus → List Channel → Option (ℕ × Bool)
shown_of ch told chs = if ch == 15 then next_told told else shown_on (slice_index_or chs ch code.Closed)

-- AMONG THE CHANNELS
pub more_of : (tracks : ℕ) (c : Content) (chs after : List Channel) (ch n : ℕ) (d new : Channel) (told now : ToldStatus) (result : Result (Unit {0}) Trouble) → after ≡ slice_set chs ch new → ch < 15 → length chs ≡ 15 → FitsTracks tracks new
    → IsTakenBy c (slice_index_or chs ch d) new result → shown_of ch told chs ≡ Some (n, false) → IsSome (shown_of ch now after)
more_of tracks c chs after ch n d new told now result is lt count fits h e =
    let other : (ch == 15) ≡ false = below_15 ch lt in
    let inside : ch < length chs = omega (arith, lt, count) in
    let said : shown_on (slice_index_or chs ch code.Closed) ≡ Some (n, false) = subst (λ (b : Bool). (if b then next_told told else shown_on (slice_index_or chs ch code.Closed)) ≡ Some (n, false)) other e in
    subst (λ (b : Bool). IsSome (if b then next_told now else shown_on (slice_index_or after ch code.Closed))) (sym other)
    (subst (λ (k : Channel). IsSome (shown_on k)) (sym (set_now chs after ch new is inside))
    (channel_more tracks c (slice_index_or chs ch d) new result n fits h (subst (λ (k : Channel). shown_on k ≡ Some (n, false)) (any_default chs ch code.Closed d inside) said)))

-- and on channel 15
pub more_told : (chs : List Channel) (ch n : ℕ) (told now : ToldStatus) → ch ≡ 15 → now ≡ after_the_next told → shown_of ch told chs ≡ Some (n, false) → IsSome (shown_of ch now chs)
more_told chs ch n told now at_ e said = subst (λ (k : ℕ). IsSome (shown_of k now chs)) (sym at_) (subst (λ (t : ToldStatus). IsSome (next_told t)) (sym e) (told_more told n (subst (λ (k : ℕ). shown_of k told chs ≡ Some (n, false)) at_ said)))
