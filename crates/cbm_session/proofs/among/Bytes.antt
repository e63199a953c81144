-- One of several drives follows a byte of the host, with its end signalled or not.
use Rattle.cbm_session.proofs.Paces.{pulse_from}
use Rattle.cbm_iec.specs.Profile.{eoi_pulse}
use Rattle.std.proofs.Common.{◌≡◌, ℕ, suc, ◌+◌, ◌≤◌, Bool, true, false, List, [], ◌∷◌, ◌++◌, length, Option, ap, sym, ◌∙◌, subst, append_assoc, arith, refl}
use Rattle.cbm_iec.specs.declared.machine.Act.TheVariants.{Heard}
use Rattle.cbm_iec.specs.declared.ear.Ear.TheVariants.{Timed}
use Rattle.cbm_iec.specs.declared.lines.Line.TheVariants.{Clock}
use Rattle.cbm_iec.specs.declared.lines.Way.TheVariants.{Pull, Free}
use Rattle.cbm_iec.specs.declared.party.Role.TheVariants.{Listener}
use Rattle.cbm_iec.specs.declared.party.Role.{Role}
use Rattle.cbm_iec.specs.declared.port.Side.TheVariants.{Hearing}
use Rattle.cbm_session.proofs.alone.Frames.{wires, stands}
use Rattle.cbm_session.proofs.among.Bits.{quiet}
use Rattle.cbm_session.proofs.among.Changes.{Changes, all_change, in_order, none_ready, last_is}
use Rattle.cbm_session.proofs.among.Frames.{in_hold, holds, body_follows, ready_follows, each_sits, frame_among}
use Rattle.cbm_session.proofs.among.Pulses.{pulls, frees, all_free, frees_order, frees_late, all_pull, pulls_first, come_after, pulls_follow, pulsing_follows, sharing, pulsing, noting}
use Rattle.cbm_session.proofs.among.Releases.{freeing_follows}
use Rattle.cbm_session.proofs.frames.Accepted.{listen_react}
use Rattle.cbm_session.proofs.frames.Phases.{ReactsBy, react_by, lasts_by, bytes_go_in_parts}
use Rattle.cbm_session.proofs.joining.Merging.{none_sooner, all_sooner}
use Rattle.cbm_session.proofs.joining.Seating.{Sits}
use Rattle.cbm_session.proofs.joining.Talkers.{sits_listeners}
use Rattle.cbm_session.specs.Among.{FollowsAmong, tells}
use Rattle.cbm_session.specs.Bits.{byte_in_cells}
use Rattle.cbm_session.specs.Frames.{Sent, wire, lasting, longest_lasting, end_of, SentFits}
use Rattle.cbm_session.specs.Laws.{SeatsReact, releases, from_start, accepts, frame_in_parts}
use Rattle.cbm_session.specs.Pieces.{Point, Byte, Fits, steps_of}
use Rattle.cbm_session.specs.Seats.{Seat, lines, device, reaction, slowest, is_listener, listeners}
use Rattle.cbm_session.specs.Steps.{Step, host, Plain, For}

-- From when DATA is free on the wire: all pull it, all let go, the drive reads the byte, and all accept.
from_wire : (peek : Option (ℕ × Bool)) (s x : Seat) (xs : List Seat) (f : Sent) → SeatsReact (x ∷ xs) → SentFits (x ∷ xs) true f → Sits (device s) (x ∷ xs) s → (n : ℕ) → suc n ≡ length (x ∷ xs)
    → FollowsAmong peek (quiet (wires false false false)) (stands s.party s.role (lines false false) (wires false false false) (Hearing (Timed (wire (x ∷ xs) f + 200 + s.party.reaction))))
    (pulls (x ∷ xs) (wire (x ∷ xs) f) ++ (frees (x ∷ xs) (wire (x ∷ xs) f) ++ (from_start f ++ accepts (x ∷ xs) f (Heard (byte_in_cells f.cells) true)))) (in_hold false n) (holds peek s.party s.role true false n)
from_wire peek s x xs f r fits sits n e =
    let t = wire (x ∷ xs) f in
    let act = Heard (byte_in_cells f.cells) true in
    let accs = accepts (x ∷ xs) f act in
    let sent = from_start f ++ accs in
    let rest = frees (x ∷ xs) t ++ sent in
    let r2 = in_hold false n in
    let q2 = holds peek s.party s.role true false n in
    let pull = all_change Pull (λ o. Plain) (t + 200) x xs s sits in
    let free = all_free t x xs s sits in
    let accept = all_change Pull (λ o. For o act) (end_of f) x xs s sits in
    let pulled : pull.0 ≡ n = omega (arith, pull.1, e) in
    let freed : free.0 ≡ n = omega (arith, free.1, e) in
    let accepted : accept.0 ≡ n = omega (arith, accept.1, e) in
    let its_pull = subst (λ (k : ℕ). Changes Pull (λ o. Plain) (device s) (t + 200 + reaction s) (pulls (x ∷ xs) t) k true) pulled pull.2 in
    let its_free = subst (λ (k : ℕ). Changes Free (λ o. Plain) (device s) (t + 200 + lasting s) (frees (x ∷ xs) t) k true) freed free.2 in
    let its_accept = subst (λ (k : ℕ). Changes Pull (λ o. For o act) (device s) (end_of f + reaction s) accs k true) accepted accept.2 in
    let by = each_sits (ReactsBy (slowest (x ∷ xs))) (device s) (x ∷ xs) s (react_by (slowest (x ∷ xs)) (x ∷ xs) r (omega arith)) sits in
    let least = by.0 in
    let most = by.1 in
    let lasts = each_sits (λ u. lasting u ≤ longest_lasting (x ∷ xs)) (device s) (x ∷ xs) s (lasts_by (longest_lasting (x ∷ xs)) (x ∷ xs) (omega arith)) sits in
    let over : t + 200 + longest_lasting (x ∷ xs) + 1 ≤ f.start = fits.start in
    let body : FollowsAmong peek (quiet (wires false false false)) (noting peek s.party s.role r2 q2 sent 0) sent r2 q2 =
    tells tt refl (body_follows peek s.party s.role true false f.start n f.cells accs fits.eight its_accept (in_order Pull (λ o. For o act) (end_of f) x xs)) in
    let letting = pulsing_follows peek s.party s.role r2 q2 sent (t + 200 + lasting s) n (frees (x ∷ xs) t) its_free (frees_order t x xs) (omega (arith, over, lasts)) body in
    let sixty : t + 200 + lasting s ≡ t + 200 + reaction s + eoi_pulse s.party.pace = omega arith in
    let afterwards = come_after Free (λ o. Plain) (device s) (t + 200 + lasting s) (t + 200 + reaction s) n (frees (x ∷ xs) t) sent its_free
    (none_sooner (t + 200 + reaction s) (t + 261) (frees (x ∷ xs) t) (omega (arith, most)) (frees_late (x ∷ xs) t r)) in
    pulls_follow peek s.party s.role r2 q2 rest (t + 200 + reaction s) n (pulls (x ∷ xs) t) its_pull (in_order Pull (λ o. Plain) (t + 200) x xs)
    (all_sooner (t + 261) (t + 200 + reaction s + eoi_pulse s.party.pace) (pulls (x ∷ xs) t) (omega (arith, pulse_from s.party.pace, least)) (all_pull (x ∷ xs) t r)) afterwards
    (subst (λ (m : ℕ). FollowsAmong peek (sharing peek s.party s.role r2 q2 rest n) (pulsing peek s.party s.role r2 q2 rest m n) rest r2 q2) sixty letting)

-- A frame with the end signalled: one of several listeners follows it, and then they all hold DATA again.
pub frame_with_end : (peek : Option (ℕ × Bool)) (s x : Seat) (xs : List Seat) (f : Sent) → SeatsReact (x ∷ xs) → SentFits (x ∷ xs) true f → Sits (device s) (x ∷ xs) s → (n : ℕ) → suc n ≡ length (x ∷ xs)
    → FollowsAmong peek (in_hold false n) (holds peek s.party s.role true false n) (frame_in_parts (x ∷ xs) true (Heard (byte_in_cells f.cells) true) f) (in_hold false n) (holds peek s.party s.role true false n)
frame_with_end peek s x xs f r fits sits n e =
    let t = wire (x ∷ xs) f in
    let sent = from_start f ++ accepts (x ∷ xs) f (Heard (byte_in_cells f.cells) true) in
    let rest = pulls (x ∷ xs) t ++ (frees (x ∷ xs) t ++ sent) in
    let r2 = in_hold false n in
    let q2 = holds peek s.party s.role true false n in
    let rel = all_change Free (λ o. Plain) f.ready x xs s sits in
    let released : rel.0 ≡ n = omega (arith, rel.1, e) in
    let its_release = subst (λ (k : ℕ). Changes Free (λ o. Plain) (device s) (f.ready + reaction s) (releases (x ∷ xs) f) k true) released rel.2 in
    let pull = all_change Pull (λ o. Plain) (t + 200) x xs s sits in
    let by = each_sits (ReactsBy (slowest (x ∷ xs))) (device s) (x ∷ xs) s (react_by (slowest (x ∷ xs)) (x ∷ xs) r (omega arith)) sits in
    let slow = by.2 in
    let afterwards = come_after Pull (λ o. Plain) (device s) (t + 200 + reaction s) (f.ready + reaction s) pull.0 (pulls (x ∷ xs) t) (frees (x ∷ xs) t ++ sent) pull.2
    (none_sooner (f.ready + reaction s) (t + 200) (pulls (x ∷ xs) t) (omega (arith, slow)) (none_ready Pull (λ o. Plain) (t + 200) x xs)) in
    let timed = subst (λ (m : ℕ). FollowsAmong peek (quiet (wires false false false)) (stands s.party s.role (lines false false) (wires false false false) (Hearing (Timed (m + 200 + s.party.reaction)))) rest r2 q2)
    (sym (last_is Free (λ o. Plain) f.ready x xs)) (from_wire peek s x xs f r fits sits n e) in
    let parts : frame_in_parts (x ∷ xs) true (Heard (byte_in_cells f.cells) true) f ≡ host f.ready Clock Free ∷ (releases (x ∷ xs) f ++ rest) =
    ap (λ (zs : List Step). host f.ready Clock Free ∷ (releases (x ∷ xs) f ++ zs)) (ap (λ (zs : List Step). zs ++ sent) (pulls_first (x ∷ xs) t r) ∙ append_assoc (pulls (x ∷ xs) t) (frees (x ∷ xs) t) sent) in
    subst (λ (zs : List Step). FollowsAmong peek r2 q2 zs r2 q2) (sym parts)
    (ready_follows peek s.party s.role true false n f.ready (releases (x ∷ xs) f ++ rest) r2 q2
    (freeing_follows peek s.party s.role r2 q2 rest false (f.ready + s.party.reaction) f.ready n (releases (x ∷ xs) f) its_release (in_order Free (λ o. Plain) f.ready x xs) afterwards timed))

-- with the end signalled or not, among those who listen
among_listeners : (peek : Option (ℕ × Bool)) (hs : List Seat) (s : Seat) (n : ℕ) (eoi : Bool) (f : Sent) → SeatsReact hs → SentFits hs eoi f → Sits (device s) hs s → suc n ≡ length hs
    → FollowsAmong peek (in_hold false n) (holds peek s.party s.role eoi false n) (frame_in_parts hs eoi (Heard (byte_in_cells f.cells) eoi) f) (in_hold false n) (holds peek s.party s.role eoi false n)
among_listeners peek [] s n eoi f r fits sits e = elim sits [ ]
among_listeners peek (x ∷ xs) s n true f r fits sits e = frame_with_end peek s x xs f r fits sits n e
among_listeners peek (x ∷ xs) s n false f r fits sits e =
    let k = frame_among peek s x xs false f r fits sits in
    let same : k.0 ≡ n = omega (arith, k.1, e) in
    subst (λ (m : ℕ). FollowsAmong peek (in_hold false m) (holds peek s.party s.role false false m) (frame_in_parts (x ∷ xs) false (Heard (byte_in_cells f.cells) false) f) (in_hold false m) (holds peek s.party s.role false false m)) same k.2

-- One of several listeners follows a byte, and they hold DATA again.
pub byte_among : (peek : Option (ℕ × Bool)) (p : Point) (s : Seat) (n : ℕ) (eoi : Bool) (f : Sent) → SeatsReact p.seats → Sits (device s) p.seats s → s.role ≡ Listener → suc n ≡ length (listeners p.seats) → Fits p (Byte eoi f)
    → FollowsAmong peek (in_hold false n) (holds peek s.party s.role eoi false n) (steps_of p (Byte eoi f)) (in_hold false n) (holds peek s.party s.role eoi false n)
byte_among peek p s n eoi f r sits listens e fits =
    subst (λ (zs : List Step). FollowsAmong peek (in_hold false n) (holds peek s.party s.role eoi false n) zs (in_hold false n) (holds peek s.party s.role eoi false n)) (sym (bytes_go_in_parts p eoi f r fits))
    (among_listeners peek (listeners p.seats) s n eoi f (listen_react p.seats r) fits.3 (sits_listeners (device s) p.seats s sits (ap (λ (q : Role). is_listener q) listens)) e)
