-- Worked sessions, by numbers.
use Rattle.std.specs.Prelude.{◌≡◌, ℕ, ◌+◌, Bool, true, false, List, [], ◌∷◌, Some, None}
use Rattle.cbm_iec.specs.declared.machine.Act.TheVariants.{Pulled, Attention, Released, Heard, Silent}
use Rattle.cbm_iec.specs.declared.machine.Act.{Act}
use Rattle.cbm_iec.specs.declared.event.Event.{Event}
use Rattle.cbm_iec.specs.declared.event.Who.TheVariants.{Host, Drive}
use Rattle.cbm_iec.specs.declared.lines.Line.TheVariants.{Atn, Clock, Data}
use Rattle.cbm_iec.specs.declared.lines.Way.TheVariants.{Pull, Free}
use Rattle.cbm_iec.specs.declared.pace.Pace.TheVariants.{Profile}
use Rattle.cbm_iec.specs.declared.party.Party.{Party}
use Rattle.cbm_session.specs.Bits.{BitCell}
use Rattle.cbm_session.specs.Frames.{Sent}
use Rattle.cbm_session.specs.Pieces.{Piece, PullPiece, Command, Byte, ToListener, ToNobody, ToTalker, Nothing, Talk, Full, Cut}
use Rattle.cbm_session.specs.Seats.{device, reaction}
use Rattle.cbm_session.specs.Sessions.{rest, Linked, session_steps, acts_of}
use Rattle.cbm_session.specs.Steps.{event_of, events_of}

-- a drive at the profile's pace, by its device number and its reaction
abbrev pub party : ℕ → ℕ → Party
party device reaction = record { device = device; reaction = reaction; pace = Profile }

-- bits of 40 microseconds, DATA set at the pull before
abbrev pub each_40 : ℕ → List Bool → List BitCell
each_40 at [] = []
each_40 at (bit ∷ bits) = record { bit = bit; set = at; free = at + 20; pull = at + 40 } ∷ each_40 (at + 40) bits

-- a frame of the host with these bits of 40 microseconds
abbrev pub frame_sent : ℕ → ℕ → List Bool → Sent
frame_sent ready start bits = record { ready = ready; start = start; cells = each_40 start bits }

-- these pieces are a session of these drives, with these events and acts
pub record Tells (bs : List Party) (ks : List Piece) (trace : List Event) (told : List (List Act)) : Type 0 where
  pub linked : Linked (rest bs) ks
  pub events : events_of (session_steps (rest bs) ks) ≡ trace
  pub acts : acts_of bs (session_steps (rest bs) ks) ≡ told

-- LISTEN to device 8, reaction 20, device 8
abbrev pub listen_own_pieces : List Piece
listen_own_pieces =
    Full (PullPiece 0) ∷ Full (Command (frame_sent 1000 1040 (false ∷ false ∷ false ∷ true ∷ false ∷ true ∷ false ∷ false ∷ []))) ∷ Full (ToListener 1400) ∷ []

-- the events of that session
abbrev pub listen_own_events : List Event
listen_own_events =
    event_of Host 0 Atn Pull ∷ event_of Host 0 Clock Pull ∷ event_of (Drive 8) 20 Data Pull
    ∷ event_of Host 1000 Clock Free ∷ event_of (Drive 8) 1020 Data Free ∷ event_of Host 1040 Clock Pull
    ∷ event_of Host 1040 Data Pull ∷ event_of Host 1060 Clock Free ∷ event_of Host 1080 Clock Pull
    ∷ event_of Host 1100 Clock Free ∷ event_of Host 1120 Clock Pull ∷ event_of Host 1140 Clock Free
    ∷ event_of Host 1160 Clock Pull ∷ event_of Host 1160 Data Free ∷ event_of Host 1180 Clock Free
    ∷ event_of Host 1200 Clock Pull ∷ event_of Host 1200 Data Pull ∷ event_of Host 1220 Clock Free
    ∷ event_of Host 1240 Clock Pull ∷ event_of Host 1240 Data Free ∷ event_of Host 1260 Clock Free
    ∷ event_of Host 1280 Clock Pull ∷ event_of Host 1280 Data Pull ∷ event_of Host 1300 Clock Free
    ∷ event_of Host 1320 Clock Pull ∷ event_of Host 1340 Clock Free ∷ event_of Host 1360 Clock Pull
    ∷ event_of Host 1360 Data Free ∷ event_of (Drive 8) 1380 Data Pull ∷ event_of Host 1400 Atn Free
    ∷ []

-- the drive is told ATN's pull, the byte 40 in attention, and ATN's release
abbrev pub ListenOwn : Type 0
ListenOwn = Tells (party 8 20 ∷ []) listen_own_pieces listen_own_events ((Pulled ∷ Attention 40 ∷ Released ∷ []) ∷ [])

-- LISTEN to device 9 on a bus with device 8 alone
abbrev pub listen_other_pieces : List Piece
listen_other_pieces =
    Full (PullPiece 0) ∷ Full (Command (frame_sent 1000 1040 (true ∷ false ∷ false ∷ true ∷ false ∷ true ∷ false ∷ false ∷ []))) ∷ Full (ToNobody 1400 1501) ∷ []

-- the events of that session: the drive lets go of DATA after ATN's release
abbrev pub listen_other_events : List Event
listen_other_events =
    event_of Host 0 Atn Pull ∷ event_of Host 0 Clock Pull ∷ event_of (Drive 8) 20 Data Pull
    ∷ event_of Host 1000 Clock Free ∷ event_of (Drive 8) 1020 Data Free ∷ event_of Host 1040 Clock Pull
    ∷ event_of Host 1060 Clock Free ∷ event_of Host 1080 Clock Pull ∷ event_of Host 1080 Data Pull
    ∷ event_of Host 1100 Clock Free ∷ event_of Host 1120 Clock Pull ∷ event_of Host 1140 Clock Free
    ∷ event_of Host 1160 Clock Pull ∷ event_of Host 1160 Data Free ∷ event_of Host 1180 Clock Free
    ∷ event_of Host 1200 Clock Pull ∷ event_of Host 1200 Data Pull ∷ event_of Host 1220 Clock Free
    ∷ event_of Host 1240 Clock Pull ∷ event_of Host 1240 Data Free ∷ event_of Host 1260 Clock Free
    ∷ event_of Host 1280 Clock Pull ∷ event_of Host 1280 Data Pull ∷ event_of Host 1300 Clock Free
    ∷ event_of Host 1320 Clock Pull ∷ event_of Host 1340 Clock Free ∷ event_of Host 1360 Clock Pull
    ∷ event_of Host 1360 Data Free ∷ event_of (Drive 8) 1380 Data Pull ∷ event_of Host 1400 Atn Free
    ∷ event_of (Drive 8) 1420 Data Free ∷ event_of Host 1501 Clock Free
    ∷ []

-- the drive is told ATN's pull, the byte 41 in attention, and ATN's release
abbrev pub ListenOther : Type 0
ListenOther = Tells (party 8 20 ∷ []) listen_other_pieces listen_other_events ((Pulled ∷ Attention 41 ∷ Released ∷ []) ∷ [])

-- TALK to device 8, which says 55; the host frees DATA 20 after the drive frees CLOCK, and pulls ATN just after the last pull of CLOCK
abbrev pub talk_cut_pieces : List Piece
talk_cut_pieces =
    Full (PullPiece 0) ∷ Full (Command (frame_sent 100 140 (false ∷ false ∷ false ∷ true ∷ false ∷ false ∷ true ∷ false ∷ []))) ∷ Full (Command (frame_sent 580 620 (true ∷ true ∷ true ∷ true ∷ false ∷ true ∷ true ∷ false ∷ []))) ∷ Full (ToTalker 1020 1040) ∷ Cut (Talk 1140 (record { bits = true ∷ true ∷ true ∷ false ∷ true ∷ true ∷ false ∷ false ∷ []; free = 1160; signal = None; accept = 2240 })) 2141 ∷ Full (PullPiece 2141) ∷ []

-- the events of that session: the drive frees CLOCK and pulls DATA after the cut
abbrev pub talk_cut_events : List Event
talk_cut_events =
    event_of Host 0 Atn Pull ∷ event_of Host 0 Clock Pull ∷ event_of (Drive 8) 20 Data Pull
    ∷ event_of Host 100 Clock Free ∷ event_of (Drive 8) 120 Data Free ∷ event_of Host 140 Clock Pull
    ∷ event_of Host 140 Data Pull ∷ event_of Host 160 Clock Free ∷ event_of Host 180 Clock Pull
    ∷ event_of Host 200 Clock Free ∷ event_of Host 220 Clock Pull ∷ event_of Host 240 Clock Free
    ∷ event_of Host 260 Clock Pull ∷ event_of Host 260 Data Free ∷ event_of Host 280 Clock Free
    ∷ event_of Host 300 Clock Pull ∷ event_of Host 300 Data Pull ∷ event_of Host 320 Clock Free
    ∷ event_of Host 340 Clock Pull ∷ event_of Host 360 Clock Free ∷ event_of Host 380 Clock Pull
    ∷ event_of Host 380 Data Free ∷ event_of Host 400 Clock Free ∷ event_of Host 420 Clock Pull
    ∷ event_of Host 420 Data Pull ∷ event_of Host 440 Clock Free ∷ event_of Host 460 Clock Pull
    ∷ event_of Host 460 Data Free ∷ event_of (Drive 8) 480 Data Pull ∷ event_of Host 580 Clock Free
    ∷ event_of (Drive 8) 600 Data Free ∷ event_of Host 620 Clock Pull ∷ event_of Host 640 Clock Free
    ∷ event_of Host 660 Clock Pull ∷ event_of Host 680 Clock Free ∷ event_of Host 700 Clock Pull
    ∷ event_of Host 720 Clock Free ∷ event_of Host 740 Clock Pull ∷ event_of Host 760 Clock Free
    ∷ event_of Host 780 Clock Pull ∷ event_of Host 780 Data Pull ∷ event_of Host 800 Clock Free
    ∷ event_of Host 820 Clock Pull ∷ event_of Host 820 Data Free ∷ event_of Host 840 Clock Free
    ∷ event_of Host 860 Clock Pull ∷ event_of Host 880 Clock Free ∷ event_of Host 900 Clock Pull
    ∷ event_of Host 900 Data Pull ∷ event_of Host 920 Clock Free ∷ event_of Host 940 Clock Pull
    ∷ event_of Host 940 Data Free ∷ event_of (Drive 8) 960 Data Pull ∷ event_of Host 1020 Data Pull
    ∷ event_of Host 1020 Atn Free ∷ event_of Host 1040 Clock Free ∷ event_of (Drive 8) 1060 Clock Pull
    ∷ event_of (Drive 8) 1060 Data Free ∷ event_of (Drive 8) 1140 Clock Free ∷ event_of Host 1160 Data Free
    ∷ event_of (Drive 8) 1180 Clock Pull ∷ event_of (Drive 8) 1240 Clock Free ∷ event_of (Drive 8) 1300 Clock Pull
    ∷ event_of (Drive 8) 1360 Clock Free ∷ event_of (Drive 8) 1420 Clock Pull ∷ event_of (Drive 8) 1480 Clock Free
    ∷ event_of (Drive 8) 1540 Clock Pull ∷ event_of (Drive 8) 1540 Data Pull ∷ event_of (Drive 8) 1600 Clock Free
    ∷ event_of (Drive 8) 1660 Clock Pull ∷ event_of (Drive 8) 1660 Data Free ∷ event_of (Drive 8) 1720 Clock Free
    ∷ event_of (Drive 8) 1780 Clock Pull ∷ event_of (Drive 8) 1840 Clock Free ∷ event_of (Drive 8) 1900 Clock Pull
    ∷ event_of (Drive 8) 1900 Data Pull ∷ event_of (Drive 8) 1960 Clock Free ∷ event_of (Drive 8) 2020 Clock Pull
    ∷ event_of (Drive 8) 2080 Clock Free ∷ event_of (Drive 8) 2140 Clock Pull ∷ event_of (Drive 8) 2140 Data Free
    ∷ event_of Host 2141 Atn Pull ∷ event_of Host 2141 Clock Pull ∷ event_of (Drive 8) 2161 Clock Free
    ∷ event_of (Drive 8) 2161 Data Pull
    ∷ []

-- the byte isn't taken: the drive is told ATN's pull, the bytes 72 and 111 in attention, ATN's release, and its second pull
abbrev pub TalkCut : Type 0
TalkCut = Tells (party 8 20 ∷ []) talk_cut_pieces talk_cut_events ((Pulled ∷ Attention 72 ∷ Attention 111 ∷ Released ∷ Pulled ∷ []) ∷ [])

-- the same, ATN pulled after four bits
abbrev pub talk_cut_early_pieces : List Piece
talk_cut_early_pieces =
    Full (PullPiece 0) ∷ Full (Command (frame_sent 100 140 (false ∷ false ∷ false ∷ true ∷ false ∷ false ∷ true ∷ false ∷ []))) ∷ Full (Command (frame_sent 580 620 (true ∷ true ∷ true ∷ true ∷ false ∷ true ∷ true ∷ false ∷ []))) ∷ Full (ToTalker 1020 1040) ∷ Cut (Talk 1140 (record { bits = true ∷ true ∷ true ∷ false ∷ true ∷ true ∷ false ∷ false ∷ []; free = 1160; signal = None; accept = 2240 })) 1630 ∷ Full (PullPiece 1630) ∷ []

-- the events of that session: half of the byte was shown
abbrev pub talk_cut_early_events : List Event
talk_cut_early_events =
    event_of Host 0 Atn Pull ∷ event_of Host 0 Clock Pull ∷ event_of (Drive 8) 20 Data Pull
    ∷ event_of Host 100 Clock Free ∷ event_of (Drive 8) 120 Data Free ∷ event_of Host 140 Clock Pull
    ∷ event_of Host 140 Data Pull ∷ event_of Host 160 Clock Free ∷ event_of Host 180 Clock Pull
    ∷ event_of Host 200 Clock Free ∷ event_of Host 220 Clock Pull ∷ event_of Host 240 Clock Free
    ∷ event_of Host 260 Clock Pull ∷ event_of Host 260 Data Free ∷ event_of Host 280 Clock Free
    ∷ event_of Host 300 Clock Pull ∷ event_of Host 300 Data Pull ∷ event_of Host 320 Clock Free
    ∷ event_of Host 340 Clock Pull ∷ event_of Host 360 Clock Free ∷ event_of Host 380 Clock Pull
    ∷ event_of Host 380 Data Free ∷ event_of Host 400 Clock Free ∷ event_of Host 420 Clock Pull
    ∷ event_of Host 420 Data Pull ∷ event_of Host 440 Clock Free ∷ event_of Host 460 Clock Pull
    ∷ event_of Host 460 Data Free ∷ event_of (Drive 8) 480 Data Pull ∷ event_of Host 580 Clock Free
    ∷ event_of (Drive 8) 600 Data Free ∷ event_of Host 620 Clock Pull ∷ event_of Host 640 Clock Free
    ∷ event_of Host 660 Clock Pull ∷ event_of Host 680 Clock Free ∷ event_of Host 700 Clock Pull
    ∷ event_of Host 720 Clock Free ∷ event_of Host 740 Clock Pull ∷ event_of Host 760 Clock Free
    ∷ event_of Host 780 Clock Pull ∷ event_of Host 780 Data Pull ∷ event_of Host 800 Clock Free
    ∷ event_of Host 820 Clock Pull ∷ event_of Host 820 Data Free ∷ event_of Host 840 Clock Free
    ∷ event_of Host 860 Clock Pull ∷ event_of Host 880 Clock Free ∷ event_of Host 900 Clock Pull
    ∷ event_of Host 900 Data Pull ∷ event_of Host 920 Clock Free ∷ event_of Host 940 Clock Pull
    ∷ event_of Host 940 Data Free ∷ event_of (Drive 8) 960 Data Pull ∷ event_of Host 1020 Data Pull
    ∷ event_of Host 1020 Atn Free ∷ event_of Host 1040 Clock Free ∷ event_of (Drive 8) 1060 Clock Pull
    ∷ event_of (Drive 8) 1060 Data Free ∷ event_of (Drive 8) 1140 Clock Free ∷ event_of Host 1160 Data Free
    ∷ event_of (Drive 8) 1180 Clock Pull ∷ event_of (Drive 8) 1240 Clock Free ∷ event_of (Drive 8) 1300 Clock Pull
    ∷ event_of (Drive 8) 1360 Clock Free ∷ event_of (Drive 8) 1420 Clock Pull ∷ event_of (Drive 8) 1480 Clock Free
    ∷ event_of (Drive 8) 1540 Clock Pull ∷ event_of (Drive 8) 1540 Data Pull ∷ event_of (Drive 8) 1600 Clock Free
    ∷ event_of Host 1630 Atn Pull ∷ event_of Host 1630 Clock Pull
    ∷ []

-- the byte isn't taken either: the acts are those of the later cut
abbrev pub TalkCutEarly : Type 0
TalkCutEarly = Tells (party 8 20 ∷ []) talk_cut_early_pieces talk_cut_early_events ((Pulled ∷ Attention 72 ∷ Attention 111 ∷ Released ∷ Pulled ∷ []) ∷ [])

-- devices 8 and 9 with reactions 1 and 60 both listen, with EOI: one pulse on the wire
abbrev pub two_listeners_pieces : List Piece
two_listeners_pieces =
    Full (PullPiece 0) ∷ Full (Command (frame_sent 100 180 (false ∷ false ∷ false ∷ true ∷ false ∷ true ∷ false ∷ false ∷ []))) ∷ Full (Command (frame_sent 601 681 (true ∷ false ∷ false ∷ true ∷ false ∷ true ∷ false ∷ false ∷ []))) ∷ Full (ToListener 1062) ∷ Full (Byte true (frame_sent 1162 1543 (true ∷ false ∷ false ∷ false ∷ false ∷ false ∷ true ∷ false ∷ []))) ∷ []

-- the events of that session: each drive pulses on DATA, and the host starts after the slower pulse
abbrev pub two_listeners_events : List Event
two_listeners_events =
    event_of Host 0 Atn Pull ∷ event_of Host 0 Clock Pull ∷ event_of (Drive 8) 1 Data Pull
    ∷ event_of (Drive 9) 60 Data Pull ∷ event_of Host 100 Clock Free ∷ event_of (Drive 8) 101 Data Free
    ∷ event_of (Drive 9) 160 Data Free ∷ event_of Host 180 Clock Pull ∷ event_of Host 180 Data Pull
    ∷ event_of Host 200 Clock Free ∷ event_of Host 220 Clock Pull ∷ event_of Host 240 Clock Free
    ∷ event_of Host 260 Clock Pull ∷ event_of Host 280 Clock Free ∷ event_of Host 300 Clock Pull
    ∷ event_of Host 300 Data Free ∷ event_of Host 320 Clock Free ∷ event_of Host 340 Clock Pull
    ∷ event_of Host 340 Data Pull ∷ event_of Host 360 Clock Free ∷ event_of Host 380 Clock Pull
    ∷ event_of Host 380 Data Free ∷ event_of Host 400 Clock Free ∷ event_of Host 420 Clock Pull
    ∷ event_of Host 420 Data Pull ∷ event_of Host 440 Clock Free ∷ event_of Host 460 Clock Pull
    ∷ event_of Host 480 Clock Free ∷ event_of Host 500 Clock Pull ∷ event_of Host 500 Data Free
    ∷ event_of (Drive 8) 501 Data Pull ∷ event_of (Drive 9) 560 Data Pull ∷ event_of Host 601 Clock Free
    ∷ event_of (Drive 8) 602 Data Free ∷ event_of (Drive 9) 661 Data Free ∷ event_of Host 681 Clock Pull
    ∷ event_of Host 701 Clock Free ∷ event_of Host 721 Clock Pull ∷ event_of Host 721 Data Pull
    ∷ event_of Host 741 Clock Free ∷ event_of Host 761 Clock Pull ∷ event_of Host 781 Clock Free
    ∷ event_of Host 801 Clock Pull ∷ event_of Host 801 Data Free ∷ event_of Host 821 Clock Free
    ∷ event_of Host 841 Clock Pull ∷ event_of Host 841 Data Pull ∷ event_of Host 861 Clock Free
    ∷ event_of Host 881 Clock Pull ∷ event_of Host 881 Data Free ∷ event_of Host 901 Clock Free
    ∷ event_of Host 921 Clock Pull ∷ event_of Host 921 Data Pull ∷ event_of Host 941 Clock Free
    ∷ event_of Host 961 Clock Pull ∷ event_of Host 981 Clock Free ∷ event_of Host 1001 Clock Pull
    ∷ event_of Host 1001 Data Free ∷ event_of (Drive 8) 1002 Data Pull ∷ event_of (Drive 9) 1061 Data Pull
    ∷ event_of Host 1062 Atn Free ∷ event_of Host 1162 Clock Free ∷ event_of (Drive 8) 1163 Data Free
    ∷ event_of (Drive 9) 1222 Data Free ∷ event_of (Drive 8) 1423 Data Pull ∷ event_of (Drive 9) 1482 Data Pull
    ∷ event_of (Drive 8) 1483 Data Free ∷ event_of (Drive 9) 1542 Data Free ∷ event_of Host 1543 Clock Pull
    ∷ event_of Host 1563 Clock Free ∷ event_of Host 1583 Clock Pull ∷ event_of Host 1583 Data Pull
    ∷ event_of Host 1603 Clock Free ∷ event_of Host 1623 Clock Pull ∷ event_of Host 1643 Clock Free
    ∷ event_of Host 1663 Clock Pull ∷ event_of Host 1683 Clock Free ∷ event_of Host 1703 Clock Pull
    ∷ event_of Host 1723 Clock Free ∷ event_of Host 1743 Clock Pull ∷ event_of Host 1763 Clock Free
    ∷ event_of Host 1783 Clock Pull ∷ event_of Host 1783 Data Free ∷ event_of Host 1803 Clock Free
    ∷ event_of Host 1823 Clock Pull ∷ event_of Host 1823 Data Pull ∷ event_of Host 1843 Clock Free
    ∷ event_of Host 1863 Clock Pull ∷ event_of Host 1863 Data Free ∷ event_of (Drive 8) 1864 Data Pull
    ∷ event_of (Drive 9) 1923 Data Pull
    ∷ []

-- both drives are told the bytes 40 and 41 in attention, and hear 65 with EOI
abbrev pub TwoListeners : Type 0
TwoListeners = Tells (party 8 1 ∷ party 9 60 ∷ []) two_listeners_pieces two_listeners_events ((Pulled ∷ Attention 40 ∷ Attention 41 ∷ Released ∷ Heard 65 true ∷ []) ∷ (Pulled ∷ Attention 40 ∷ Attention 41 ∷ Released ∷ Heard 65 true ∷ []) ∷ [])

-- a pull of ATN, both reactions 20, order of ties 9, 8
abbrev pub ties_9_8_pieces : List Piece
ties_9_8_pieces =
    Full (PullPiece 0) ∷ []

-- the events of that session: at one moment device 9 comes first
abbrev pub ties_9_8_events : List Event
ties_9_8_events =
    event_of Host 0 Atn Pull ∷ event_of Host 0 Clock Pull ∷ event_of (Drive 9) 20 Data Pull
    ∷ event_of (Drive 8) 20 Data Pull
    ∷ []

-- both drives are told ATN's pull
abbrev pub Ties98 : Type 0
Ties98 = Tells (party 9 20 ∷ party 8 20 ∷ []) ties_9_8_pieces ties_9_8_events ((Pulled ∷ []) ∷ (Pulled ∷ []) ∷ [])

-- a pull of ATN, both reactions 20, order of ties 8, 9
abbrev pub ties_8_9_pieces : List Piece
ties_8_9_pieces =
    Full (PullPiece 0) ∷ []

-- the events of that session: at one moment device 8 comes first
abbrev pub ties_8_9_events : List Event
ties_8_9_events =
    event_of Host 0 Atn Pull ∷ event_of Host 0 Clock Pull ∷ event_of (Drive 8) 20 Data Pull
    ∷ event_of (Drive 9) 20 Data Pull
    ∷ []

-- both drives are told ATN's pull
abbrev pub Ties89 : Type 0
Ties89 = Tells (party 8 20 ∷ party 9 20 ∷ []) ties_8_9_pieces ties_8_9_events ((Pulled ∷ []) ∷ (Pulled ∷ []) ∷ [])

-- devices 8 and 9 with reactions 1 and 60, LISTEN to 8: 9 lets go of DATA beside it
abbrev pub beside_a_listener_pieces : List Piece
beside_a_listener_pieces =
    Full (PullPiece 0) ∷ Full (Command (frame_sent 1000 1080 (false ∷ false ∷ false ∷ true ∷ false ∷ true ∷ false ∷ false ∷ []))) ∷ Full (ToListener 1480) ∷ []

-- the events of that session
abbrev pub beside_a_listener_events : List Event
beside_a_listener_events =
    event_of Host 0 Atn Pull ∷ event_of Host 0 Clock Pull ∷ event_of (Drive 8) 1 Data Pull
    ∷ event_of (Drive 9) 60 Data Pull ∷ event_of Host 1000 Clock Free ∷ event_of (Drive 8) 1001 Data Free
    ∷ event_of (Drive 9) 1060 Data Free ∷ event_of Host 1080 Clock Pull ∷ event_of Host 1080 Data Pull
    ∷ event_of Host 1100 Clock Free ∷ event_of Host 1120 Clock Pull ∷ event_of Host 1140 Clock Free
    ∷ event_of Host 1160 Clock Pull ∷ event_of Host 1180 Clock Free ∷ event_of Host 1200 Clock Pull
    ∷ event_of Host 1200 Data Free ∷ event_of Host 1220 Clock Free ∷ event_of Host 1240 Clock Pull
    ∷ event_of Host 1240 Data Pull ∷ event_of Host 1260 Clock Free ∷ event_of Host 1280 Clock Pull
    ∷ event_of Host 1280 Data Free ∷ event_of Host 1300 Clock Free ∷ event_of Host 1320 Clock Pull
    ∷ event_of Host 1320 Data Pull ∷ event_of Host 1340 Clock Free ∷ event_of Host 1360 Clock Pull
    ∷ event_of Host 1380 Clock Free ∷ event_of Host 1400 Clock Pull ∷ event_of Host 1400 Data Free
    ∷ event_of (Drive 8) 1401 Data Pull ∷ event_of (Drive 9) 1460 Data Pull ∷ event_of Host 1480 Atn Free
    ∷ event_of (Drive 9) 1540 Data Free
    ∷ []

-- both drives are told ATN's pull, the byte 40 in attention, and ATN's release
abbrev pub BesideAListener : Type 0
BesideAListener = Tells (party 8 1 ∷ party 9 60 ∷ []) beside_a_listener_pieces beside_a_listener_events ((Pulled ∷ Attention 40 ∷ Released ∷ []) ∷ (Pulled ∷ Attention 40 ∷ Released ∷ []) ∷ [])

-- TALK to 8 with reaction 1, which has nothing to say, beside 9 with reaction 60 and 10 with reaction 20: a pull cuts before 9 has let go
abbrev pub silent_beside_pieces : List Piece
silent_beside_pieces =
    Full (PullPiece 0) ∷ Full (Command (frame_sent 100 161 (false ∷ false ∷ false ∷ true ∷ false ∷ false ∷ true ∷ false ∷ []))) ∷ Cut (Nothing 542 562 (Some 564)) 572 ∷ Full (PullPiece 572) ∷ []

-- the events of that session: 8 and 10 let go of DATA, and 9 holds it throughout
abbrev pub silent_beside_events : List Event
silent_beside_events =
    event_of Host 0 Atn Pull ∷ event_of Host 0 Clock Pull ∷ event_of (Drive 8) 1 Data Pull
    ∷ event_of (Drive 10) 20 Data Pull ∷ event_of (Drive 9) 60 Data Pull ∷ event_of Host 100 Clock Free
    ∷ event_of (Drive 8) 101 Data Free ∷ event_of (Drive 10) 120 Data Free ∷ event_of (Drive 9) 160 Data Free
    ∷ event_of Host 161 Clock Pull ∷ event_of Host 161 Data Pull ∷ event_of Host 181 Clock Free
    ∷ event_of Host 201 Clock Pull ∷ event_of Host 221 Clock Free ∷ event_of Host 241 Clock Pull
    ∷ event_of Host 261 Clock Free ∷ event_of Host 281 Clock Pull ∷ event_of Host 281 Data Free
    ∷ event_of Host 301 Clock Free ∷ event_of Host 321 Clock Pull ∷ event_of Host 321 Data Pull
    ∷ event_of Host 341 Clock Free ∷ event_of Host 361 Clock Pull ∷ event_of Host 381 Clock Free
    ∷ event_of Host 401 Clock Pull ∷ event_of Host 401 Data Free ∷ event_of Host 421 Clock Free
    ∷ event_of Host 441 Clock Pull ∷ event_of Host 441 Data Pull ∷ event_of Host 461 Clock Free
    ∷ event_of Host 481 Clock Pull ∷ event_of Host 481 Data Free ∷ event_of (Drive 8) 482 Data Pull
    ∷ event_of (Drive 10) 501 Data Pull ∷ event_of (Drive 9) 541 Data Pull ∷ event_of Host 542 Data Pull
    ∷ event_of Host 542 Atn Free ∷ event_of Host 562 Clock Free ∷ event_of (Drive 10) 562 Data Free
    ∷ event_of (Drive 8) 563 Data Free ∷ event_of Host 564 Data Free ∷ event_of Host 572 Atn Pull
    ∷ event_of Host 572 Clock Pull ∷ event_of (Drive 8) 573 Data Pull ∷ event_of (Drive 10) 592 Data Pull
    ∷ []

-- 8 is silent; all three are told both pulls of ATN, the byte 72 in attention, and ATN's release
abbrev pub SilentBeside : Type 0
SilentBeside = Tells (party 8 1 ∷ party 9 60 ∷ party 10 20 ∷ []) silent_beside_pieces silent_beside_events ((Pulled ∷ Attention 72 ∷ Released ∷ Silent ∷ Pulled ∷ []) ∷ (Pulled ∷ Attention 72 ∷ Released ∷ Pulled ∷ []) ∷ (Pulled ∷ Attention 72 ∷ Released ∷ Pulled ∷ []) ∷ [])
