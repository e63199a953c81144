-- Acts that a drive with direct access is told by a call, and what it says.
use Rattle.std.proofs.Common.{◌≡◌, ◌∙◌, ◌+◌, ℕ, Bool, List, [], ◌∷◌, Option, None, ap, refl, subst}
use Rattle.cbm_iec.specs.Attentions.{talk, untalk, data_on}
use Rattle.cbm_iec.specs.declared.machine.Act.{Act}
use Rattle.cbm_device.proofs.Called.{told_as, talks_as}
use Rattle.cbm_device.specs.Channels.{attention_acts, leaving_acts, by_call, IsPeeked, IsToldAll, Speaks, full, silent, last, more, Talks}
use Rattle.cbm_device.specs.ImageDisks.{Counted}
use Rattle.cbm_direct_desk.specs.DirectDesks.{DirectAddressed, direct_desk_shows}
use Rattle.cbm_direct_device.specs.DirectChannels.{DirectIsTold, DirectShows, HasBeenToldDirect, HasTalkedDirect}
use Rattle.cbm_direct_device.specs.DirectDevices.{DirectOnLines, vouch_in}
use Rattle.cbm_direct_device.specs.declared.device.calls.DirectCalledAct.{DirectCalledAct}

-- acts leave it
told_vouch : (acts : List Act) (x y : DirectAddressed Counted) → IsToldAll DirectIsTold acts x y → y.dos.vouched.vouch ≡ x.dos.vouched.vouch
told_vouch [] x y e = ap (λ (d : DirectAddressed Counted). d.dos.vouched.vouch) e
told_vouch (act ∷ acts) x y t = told_vouch acts t.0 y t.2 ∙ t.1.vouch

-- so do bytes that are taken
spoken_vouch : (n : ℕ) (bytes : List ℕ) (marked : Bool) (x y : DirectAddressed Counted) → Speaks DirectIsTold DirectShows n bytes marked x y → y.dos.vouched.vouch ≡ x.dos.vouched.vouch
spoken_vouch n bytes marked x y (full e b m s) = ap (λ (d : DirectAddressed Counted). d.dos.vouched.vouch) s
spoken_vouch n bytes marked x y (silent o b m s) = ap (λ (d : DirectAddressed Counted). d.dos.vouched.vouch) s
spoken_vouch n bytes marked x y (last k byte e o t b m) = t.vouch
spoken_vouch n bytes marked x y (more k byte rest z e o t b s) = spoken_vouch k rest marked z y s ∙ t.vouch

-- the act that it takes is the one that is told
taken_act : (act : Act) (x y : DirectAddressed Counted) → by_call (λ (a : Act) (called : DirectCalledAct). called.act ≡ a) (λ (called : DirectCalledAct) old new. DirectIsTold called.act old new) act x y → DirectIsTold act x y
taken_act act x y t = subst (λ a. DirectIsTold a x y) t.1 t.2

-- what a call tells a drive
pub has_been_told_direct : (acts : List Act) (old new : DirectOnLines)
    → IsToldAll (by_call (λ (a : Act) (called : DirectCalledAct). called.act ≡ a) (λ (called : DirectCalledAct) x y. DirectIsTold called.act x y)) acts old.seat.machine new.seat.machine
    → new.seat.port ≡ old.seat.port → new.kind ≡ old.kind → new.latest ≡ old.latest → HasBeenToldDirect acts old new
has_been_told_direct acts old new t port kind latest =
    let told = told_as (by_call (λ (a : Act) (called : DirectCalledAct). called.act ≡ a) (λ (called : DirectCalledAct) x y. DirectIsTold called.act x y)) DirectIsTold taken_act acts old.seat.machine new.seat.machine t in
    record { machine = told; port = port; vouch = told_vouch acts old.seat.machine new.seat.machine told; kind = kind; latest = latest }

-- what it says to a call
pub has_talked_direct : (channel most : ℕ) (bytes : List ℕ) (marked : Bool) (old new : DirectOnLines)
    → Talks (by_call (λ (a : Act) (called : DirectCalledAct). called.act ≡ a) (λ (called : DirectCalledAct) x y. DirectIsTold called.act x y))
    (IsPeeked direct_desk_shows (λ (x : DirectAddressed Counted) (m : Unit {0}). ⊥) (λ (m : Unit {0}). None)) old.seat.port.party.device channel most bytes marked old.seat.machine new.seat.machine
    → new.seat.port ≡ old.seat.port → new.kind ≡ old.kind → new.latest ≡ old.latest → HasTalkedDirect channel most bytes marked old new
has_talked_direct channel most bytes marked old new t port kind latest =
    let device = old.seat.port.party.device in
    let talks = talks_as (by_call (λ (a : Act) (called : DirectCalledAct). called.act ≡ a) (λ (called : DirectCalledAct) x y. DirectIsTold called.act x y)) DirectIsTold taken_act
    (IsPeeked direct_desk_shows (λ (x : DirectAddressed Counted) (m : Unit {0}). ⊥) (λ (m : Unit {0}). None)) DirectShows (λ x o s. s.0) device channel most bytes marked old.seat.machine new.seat.machine t in
    record {
      machine = talks;
      port = port;
      vouch = told_vouch (leaving_acts untalk) talks.spoken new.seat.machine talks.ends ∙ (spoken_vouch most bytes marked talks.asked talks.spoken talks.speaks
          ∙ told_vouch (attention_acts (talk + device) (data_on + channel)) old.seat.machine talks.asked talks.begins);
      kind = kind;
      latest = latest;
    }
