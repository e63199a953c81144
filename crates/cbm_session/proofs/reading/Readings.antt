-- The decoder reads each piece: the acts that it gives are those that count.
use Rattle.cbm_iec.specs.Profile.{bit_time}
use Rattle.std.proofs.Common.{◌≡◌, ℕ, zero, suc, ◌+◌, Bool, true, false, not, List, [], ◌∷◌, ◌++◌, length, Option, Some, None, ap, sym, subst, refl, append_assoc, append-nil}
use Rattle.std.specs.Prelude.{if◌then◌else◌, nat_eq}
use Rattle.cbm_iec.specs.Roles.{role_after}
use Rattle.cbm_iec.specs.declared.machine.Act.TheVariants.{Attention, Heard, Said}
use Rattle.cbm_iec.specs.declared.machine.Act.{Act}
use Rattle.cbm_iec.specs.declared.lines.Line.TheVariants.{Clock, Data}
use Rattle.cbm_iec.specs.declared.lines.Way.TheVariants.{Pull, Free}
use Rattle.cbm_iec.specs.declared.party.Party.{Party}
use Rattle.cbm_iec.specs.declared.party.Role.{Role}
use Rattle.cbm_session.proofs.joining.OneDrive.{one_frame, pull_is, one_told}
use Rattle.cbm_session.proofs.reading.Decoding.{Under, known, clock_freed, when_mine, mark_act, ReadsOwn, own_append, Off, Readied, Counting, Turning, Asking, Answered, Muted, Leads, Saying}
use Rattle.cbm_session.specs.Bits.{where_held, where_free, BitCell, cell_steps, cells_steps, held_after, number_of, bits_in_cells, byte_in_cells}
use Rattle.cbm_session.specs.Frames.{Sent, Told, end_of, pulse, sending, is_last, signal_steps, first_bit, bit_steps, taking}
use Rattle.cbm_session.specs.Pieces.{Point, host_part, own_part, PullPiece}
use Rattle.cbm_session.specs.Seats.{Seat, device, reaction}
use Rattle.cbm_session.specs.Steps.{Step, host, drive, for_one, merge, For}

-- no byte is under way, or all its bits have come
abbrev pub Calm : Under → Type 0
Calm Off = Unit {0}
Calm (Readied eoi) = ⊥
Calm (Counting eoi held zero bits) = Unit {0}
Calm (Counting eoi held (suc left) bits) = ⊥
Calm Turning = ⊥
Calm Asking = ⊥
Calm Answered = ⊥
Calm Muted = ⊥
Calm Leads = ⊥
Calm (Saying held signal left bits) = ⊥

pub calm_freed : (u : Under) → Calm u → clock_freed u ≡ Readied false
calm_freed Off h = refl
calm_freed (Readied eoi) h = elim h [ ]
calm_freed (Counting eoi held zero bits) h = refl
calm_freed (Counting eoi held (suc left) bits) h = elim h [ ]
calm_freed Turning h = elim h [ ]
calm_freed Asking h = elim h [ ]
calm_freed Answered h = elim h [ ]
calm_freed Muted h = elim h [ ]
calm_freed Leads h = elim h [ ]
calm_freed (Saying held signal left bits) h = elim h [ ]

-- the bits of a frame of the host
cell_reads : (d : ℕ) (role : Role) (atn eoi held bit : Bool) (left set free pull : ℕ) (bits : List Bool)
    → ReadsOwn d (known role atn (Counting eoi held (suc left) bits)) (cell_steps held (record { bit = bit; set = set; free = free; pull = pull })) (known role atn (Counting eoi (not bit) left (bits ++ bit ∷ [])))
cell_reads d role atn eoi true true left set free pull bits = (refl, (refl, (refl, refl)))
cell_reads d role atn eoi false true left set free pull bits = (refl, (refl, refl))
cell_reads d role atn eoi true false left set free pull bits = (refl, (refl, refl))
cell_reads d role atn eoi false false left set free pull bits = (refl, (refl, (refl, refl)))

cells_reads : (d : ℕ) (role : Role) (atn eoi held : Bool) (cs : List BitCell) (bits : List Bool)
    → ReadsOwn d (known role atn (Counting eoi held (length cs) bits)) (cells_steps held cs) (known role atn (Counting eoi (held_after held cs) zero (bits ++ bits_in_cells cs)))
cells_reads d role atn eoi held [] bits = ap (λ (l : List Bool). known role atn (Counting eoi held zero l)) (append-nil bits)
cells_reads d role atn eoi held (c ∷ cs) bits =
    own_append d (known role atn (Counting eoi held (suc (length cs)) bits)) (cell_steps held c) (cells_steps (not c.bit) cs) (known role atn (Counting eoi (not c.bit) (length cs) (bits ++ c.bit ∷ []))) (known role atn (Counting eoi (held_after held (c ∷ cs)) zero (bits ++ bits_in_cells (c ∷ cs))))
    (cell_reads d role atn eoi held c.bit (length cs) c.set c.free c.pull bits)
    (subst (λ (l : List Bool). ReadsOwn d (known role atn (Counting eoi (not c.bit) (length cs) (bits ++ c.bit ∷ []))) (cells_steps (not c.bit) cs) (known role atn (Counting eoi (held_after (not c.bit) cs) zero l)))
    (append_assoc bits (c.bit ∷ []) (bits_in_cells cs)) (cells_reads d role atn eoi (not c.bit) cs (bits ++ c.bit ∷ [])))

-- DATA is freed after the last bit
freed_reads : (d : ℕ) (role : Role) (atn eoi held : Bool) (at : ℕ) (bits : List Bool)
    → ReadsOwn d (known role atn (Counting eoi held zero bits)) (where_held held (host at Data Free)) (known role atn (Counting eoi false zero bits))
freed_reads d role atn eoi true at bits = (refl, refl)
freed_reads d role atn eoi false at bits = refl

-- from the start to the last pull
body_reads : (d : ℕ) (role : Role) (atn eoi : Bool) (f : Sent) → length f.cells ≡ 8
    → ReadsOwn d (known role atn (Readied eoi)) (host f.start Clock Pull ∷ (cells_steps false f.cells ++ where_held (held_after false f.cells) (host (end_of f) Data Free))) (known role atn (Counting eoi false zero (bits_in_cells f.cells)))
body_reads d role atn eoi f e = (
  refl,
  subst (λ (n : ℕ). ReadsOwn d (known role atn (Counting eoi false n [])) (cells_steps false f.cells ++ where_held (held_after false f.cells) (host (end_of f) Data Free)) (known role atn (Counting eoi false zero (bits_in_cells f.cells)))) e
      (own_append d (known role atn (Counting eoi false (length f.cells) [])) (cells_steps false f.cells) (where_held (held_after false f.cells) (host (end_of f) Data Free)) (known role atn (Counting eoi (held_after false f.cells) zero (bits_in_cells f.cells))) (known role atn (Counting eoi false zero (bits_in_cells f.cells)))
      (cells_reads d role atn eoi false f.cells []) (freed_reads d role atn eoi (held_after false f.cells) (end_of f) (bits_in_cells f.cells))),
)

-- what the drive is told by a frame, and its role then
abbrev pub frame_act : Bool → Bool → Sent → Act
frame_act atn eoi f = if atn then Attention (byte_in_cells f.cells) else Heard (byte_in_cells f.cells) eoi

abbrev pub frame_role : ℕ → Bool → Role → Sent → Role
frame_role d atn role f = if atn then role_after d (byte_in_cells f.cells) role else role

pub mark_mine : (d o : ℕ) (act : Act) → nat_eq d o ≡ true → mark_act d (For o act) ≡ Some act
mark_mine d o act e = ap (λ (v : Bool). when_mine v (Some act) None) e

pub mark_none : (d o : ℕ) (act : Act) → nat_eq d o ≡ false → mark_act d (For o act) ≡ None
mark_none d o act e = ap (λ (v : Bool). when_mine v (Some act) None) e

pulse_reads : (d : ℕ) (role : Role) (atn eoi : Bool) (t : ℕ) (s : Seat) → ReadsOwn d (known role atn (Readied false)) (pulse t eoi s) (known role atn (Readied eoi))
pulse_reads d role atn true t s = (refl, (refl, refl))
pulse_reads d role atn false t s = refl

-- a frame that this drive hears
pub frame_reads : (d : ℕ) (s : Seat) (atn eoi : Bool) (u : Under) (t : ℕ) (f : Sent) → nat_eq d (device s) ≡ true → Calm u → length f.cells ≡ 8
    → ReadsOwn d (known s.role atn u) (one_frame t s eoi (frame_act atn eoi f) f) (known (frame_role d atn s.role f) atn (Counting eoi false zero (bits_in_cells f.cells)))
frame_reads d s atn eoi u t f e c l =
    let end = known (frame_role d atn s.role f) atn (Counting eoi false zero (bits_in_cells f.cells)) in
    let accept = for_one (device s) (frame_act atn eoi f) (drive (device s) (end_of f + reaction s) Data Pull) in
    let body = host f.start Clock Pull ∷ (cells_steps false f.cells ++ where_held (held_after false f.cells) (host (end_of f) Data Free)) in
    let last : ReadsOwn d (known s.role atn (Counting eoi false zero (bits_in_cells f.cells))) (accept ∷ []) end = (mark_mine d (device s) (frame_act atn eoi f) e, refl) in
    let rest : ReadsOwn d (known s.role atn (Readied false)) (pulse t eoi s ++ (body ++ accept ∷ [])) end =
    own_append d (known s.role atn (Readied false)) (pulse t eoi s) (body ++ accept ∷ []) (known s.role atn (Readied eoi)) end (pulse_reads d s.role atn eoi t s)
    (own_append d (known s.role atn (Readied eoi)) body (accept ∷ []) (known s.role atn (Counting eoi false zero (bits_in_cells f.cells))) end (body_reads d s.role atn eoi f l) last) in
    (refl, subst (λ (v : Under). ReadsOwn d (known s.role atn v) (drive (device s) (f.ready + reaction s) Data Free ∷ (pulse t eoi s ++ (body ++ accept ∷ []))) end) (sym (calm_freed u c)) (refl, rest))

-- a frame that it doesn't hear
pub sending_reads : (d : ℕ) (role : Role) (atn : Bool) (u : Under) (f : Sent) → Calm u → length f.cells ≡ 8 → ReadsOwn d (known role atn u) (sending f) (known role atn (Counting false false zero (bits_in_cells f.cells)))
sending_reads d role atn u f c l =
    (refl, subst (λ (v : Under). ReadsOwn d (known role atn v) (host f.start Clock Pull ∷ (cells_steps false f.cells ++ where_held (held_after false f.cells) (host (end_of f) Data Free))) (known role atn (Counting false false zero (bits_in_cells f.cells)))) (sym (calm_freed u c)) (body_reads d role atn false f l))

-- a pull of ATN
off_free : (d : ℕ) (role : Role) (atn : Bool) (at : ℕ) (held : Bool) → ReadsOwn d (known role atn Off) (where_free held (host at Clock Pull)) (known role atn Off)
off_free d role atn at true = refl
off_free d role atn at false = (refl, refl)

off_held : (d : ℕ) (role : Role) (atn : Bool) (at : ℕ) (held : Bool) → ReadsOwn d (known role atn Off) (where_held held (host at Data Free)) (known role atn Off)
off_held d role atn at true = (refl, refl)
off_held d role atn at false = refl

off_own : (d o : ℕ) (role : Role) (atn : Bool) (at : ℕ) (v w : Bool) → ReadsOwn d (known role atn Off) (where_held v (drive o at Clock Free) ++ where_free w (drive o at Data Pull)) (known role atn Off)
off_own d o role atn at true true = (refl, refl)
off_own d o role atn at true false = (refl, (refl, refl))
off_own d o role atn at false true = refl
off_own d o role atn at false false = (refl, refl)

pub pull_reads : (d : ℕ) (p : Point) (s : Seat) (atn : Bool) (u : Under) (at : ℕ)
    → ReadsOwn d (known s.role atn u) (merge (host_part p (PullPiece at)) (own_part p (PullPiece at) s)) (known s.role true Off)
pull_reads d p s atn u at =
    let off = known s.role true Off in
    let clock = where_free p.host.clock_low (host at Clock Pull) in
    let data_now = where_held p.host.data_low (host at Data Free) in
    let own = own_part p (PullPiece at) s in
    let mine : ReadsOwn d off ((clock ++ data_now) ++ own) off =
    own_append d off (clock ++ data_now) own off off (own_append d off clock data_now off off (off_free d s.role true at p.host.clock_low) (off_held d s.role true at p.host.data_low))
    (off_own d (device s) s.role true (at + reaction s) s.own.clock_low s.own.data_low) in
    subst (λ (ss : List Step). ReadsOwn d (known s.role atn u) ss off) (sym (pull_is p s at)) (refl, mine)

-- the talker's bits
bits_reads : (d : ℕ) (b : Party) (role : Role) (at : ℕ) (held signal : Bool) (bits so : List Bool)
    → ReadsOwn d (known role false (Saying held signal (length bits) so)) (bit_steps b at held bits) (known role false (Saying false signal zero (so ++ bits)))
bits_reads d b role at true signal [] so = (refl, (refl, ap (λ (l : List Bool). known role false (Saying false signal zero l)) (append-nil so)))
bits_reads d b role at false signal [] so = (refl, ap (λ (l : List Bool). known role false (Saying false signal zero l)) (append-nil so))
bits_reads d b role at true signal (true ∷ bits) so = (refl, (refl, (refl, subst (λ (l : List Bool). ReadsOwn d (known role false (Saying false signal (length bits) (so ++ true ∷ []))) (bit_steps b (at + bit_time b.pace) false bits) (known role false (Saying false signal zero l))) (append_assoc so (true ∷ []) bits) (bits_reads d b role (at + bit_time b.pace) false signal bits (so ++ true ∷ [])))))
bits_reads d b role at false signal (true ∷ bits) so = (refl, (refl, subst (λ (l : List Bool). ReadsOwn d (known role false (Saying false signal (length bits) (so ++ true ∷ []))) (bit_steps b (at + bit_time b.pace) false bits) (known role false (Saying false signal zero l))) (append_assoc so (true ∷ []) bits) (bits_reads d b role (at + bit_time b.pace) false signal bits (so ++ true ∷ []))))
bits_reads d b role at true signal (false ∷ bits) so = (refl, (refl, subst (λ (l : List Bool). ReadsOwn d (known role false (Saying true signal (length bits) (so ++ false ∷ []))) (bit_steps b (at + bit_time b.pace) true bits) (known role false (Saying false signal zero l))) (append_assoc so (false ∷ []) bits) (bits_reads d b role (at + bit_time b.pace) true signal bits (so ++ false ∷ []))))
bits_reads d b role at false signal (false ∷ bits) so = (refl, (refl, (refl, subst (λ (l : List Bool). ReadsOwn d (known role false (Saying true signal (length bits) (so ++ false ∷ []))) (bit_steps b (at + bit_time b.pace) true bits) (known role false (Saying false signal zero l))) (append_assoc so (false ∷ []) bits) (bits_reads d b role (at + bit_time b.pace) true signal bits (so ++ false ∷ [])))))

abbrev pub is_some_pair : Option (ℕ × ℕ) → Bool
is_some_pair x = elim x [ None ↦ false | Some y ↦ true ]

signal_reads : (d : ℕ) (role : Role) (x : Option (ℕ × ℕ)) → ReadsOwn d (known role false (Saying false false 8 [])) (signal_steps x) (known role false (Saying false (is_some_pair x) 8 []))
signal_reads d role None = refl
signal_reads d role (Some (pull, free)) = (refl, (refl, refl))

-- after the accept: the talker leads again, or frees CLOCK after the last byte
abbrev pub told_under : Bool → Under
told_under true = Saying false false 8 []
told_under false = Leads

end_reads : (d : ℕ) (b : Party) (role : Role) (at : ℕ) (v : Bool) → ReadsOwn d (known role false Leads) (if v then drive b.device at Clock Free ∷ [] else []) (known role false (told_under v))
end_reads d b role at true = (refl, refl)
end_reads d b role at false = refl

-- a frame of this drive
pub told_reads : (d : ℕ) (b : Party) (role : Role) (at : ℕ) (f : Told) → nat_eq d b.device ≡ true → length f.bits ≡ 8
    → ReadsOwn d (known role false Leads) (one_told b at f) (known role false (told_under (is_last f)))
told_reads d b role at f e l =
    let end = known role false (told_under (is_last f)) in
    let accept = for_one b.device (Said (number_of f.bits) (is_last f)) (host f.accept Data Pull) in
    let last = if is_last f then drive b.device (f.accept + b.reaction) Clock Free ∷ [] else [] in
    let bits = bit_steps b (first_bit b f) false f.bits in
    let taken : ReadsOwn d (known role false (Saying false (is_last f) zero f.bits)) (accept ∷ last) end = (mark_mine d b.device (Said (number_of f.bits) (is_last f)) e, end_reads d b role (f.accept + b.reaction) (is_last f)) in
    let sent : ReadsOwn d (known role false (Saying false (is_last f) 8 [])) bits (known role false (Saying false (is_last f) zero f.bits)) =
    subst (λ (n : ℕ). ReadsOwn d (known role false (Saying false (is_last f) n [])) bits (known role false (Saying false (is_last f) zero f.bits))) l (bits_reads d b role (first_bit b f) false (is_last f) f.bits []) in
    let all : ReadsOwn d (known role false (Saying false false 8 [])) (signal_steps f.signal ++ (bits ++ accept ∷ last)) end =
    own_append d (known role false (Saying false false 8 [])) (signal_steps f.signal) (bits ++ accept ∷ last) (known role false (Saying false (is_last f) 8 [])) end (signal_reads d role f.signal)
    (own_append d (known role false (Saying false (is_last f) 8 [])) bits (accept ∷ last) (known role false (Saying false (is_last f) zero f.bits)) end sent taken) in
    (refl, (refl, all))

-- a frame of another drive: the host's changes alone
other_signal : (d : ℕ) (role : Role) (x : Option (ℕ × ℕ)) → ReadsOwn d (known role false (Readied false)) (signal_steps x) (known role false (Readied false))
other_signal d role None = refl
other_signal d role (Some (pull, free)) = (refl, (refl, refl))

pub other_reads : (d : ℕ) (b : Party) (role : Role) (f : Told) → nat_eq d b.device ≡ false → ReadsOwn d (known role false (Readied false)) (taking b f) (known role false (Readied false))
other_reads d b role f e =
    let accept = for_one b.device (Said (number_of f.bits) (is_last f)) (host f.accept Data Pull) in
    let last : ReadsOwn d (known role false (Readied false)) (accept ∷ []) (known role false (Readied false)) = (mark_none d b.device (Said (number_of f.bits) (is_last f)) e, refl) in
    (refl, own_append d (known role false (Readied false)) (signal_steps f.signal) (accept ∷ []) (known role false (Readied false)) (known role false (Readied false)) (other_signal d role f.signal) last)
