-- The worked sessions, computed.
use Rattle.std.proofs.Common.{ℕ, ◌+◌, Bool, true, false, List, [], ◌∷◌, arith, refl}
use Rattle.cbm_session.specs.Bits.{CellsFit}
use Rattle.cbm_session.specs.Pieces.{commanding}
use Rattle.cbm_session.specs.Rows.{each_40, ListenOwn, ListenOther, TalkCut, TalkCutEarly, TwoListeners, Ties98, Ties89, BesideAListener, SilentBeside}

-- bits of 40 fit
each_40_fit : (held : Bool) (at : ℕ) (bits : List Bool) → CellsFit held at (each_40 at bits)
each_40_fit held at [] = tt
each_40_fit true at (true ∷ bits) = (record { set = omega arith; free = omega arith; settled = omega arith; pulled = omega arith }, each_40_fit false (at + 40) bits)
each_40_fit false at (false ∷ bits) = (record { set = omega arith; free = omega arith; settled = omega arith; pulled = omega arith }, each_40_fit true (at + 40) bits)
each_40_fit true at (false ∷ bits) = (record { set = refl; free = omega arith; settled = omega arith; pulled = omega arith }, each_40_fit true (at + 40) bits)
each_40_fit false at (true ∷ bits) = (record { set = refl; free = omega arith; settled = omega arith; pulled = omega arith }, each_40_fit false (at + 40) bits)

pub listen_own : ListenOwn
listen_own = record {
  linked = (
    (tt, omega arith),
    (
      (commanding, omega arith, omega arith, record { start = (omega arith, omega arith); eight = refl; cells = each_40_fit false 1040 (false ∷ false ∷ false ∷ true ∷ false ∷ true ∷ false ∷ false ∷ []) }),
      (
        record { commanding = refl; listener = refl; talker = refl; gap = omega arith },
        tt,
      ),
    ),
  );
  events = refl;
  acts = refl;
}

pub listen_other : ListenOther
listen_other = record {
  linked = (
    (tt, omega arith),
    (
      (commanding, omega arith, omega arith, record { start = (omega arith, omega arith); eight = refl; cells = each_40_fit false 1040 (true ∷ false ∷ false ∷ true ∷ false ∷ true ∷ false ∷ false ∷ []) }),
      (
        (record { commanding = refl; listener = refl; talker = refl; gap = omega arith }, omega arith),
        tt,
      ),
    ),
  );
  events = refl;
  acts = refl;
}

pub talk_cut : TalkCut
talk_cut = record {
  linked = (
    (tt, omega arith),
    (
      (commanding, omega arith, omega arith, record { start = (omega arith, omega arith); eight = refl; cells = each_40_fit false 140 (false ∷ false ∷ false ∷ true ∷ false ∷ false ∷ true ∷ false ∷ []) }),
      (
        (commanding, omega arith, omega arith, record { start = (omega arith, omega arith); eight = refl; cells = each_40_fit false 620 (true ∷ true ∷ true ∷ true ∷ false ∷ true ∷ true ∷ false ∷ []) }),
        (
          (record { commanding = refl; listener = refl; talker = refl; gap = omega arith }, omega arith),
          (
            ((refl, record { eight = refl; free = omega arith; signal = tt; accept = omega arith; soon = omega arith }), omega arith, refl),
            (
              refl,
              tt,
            ),
          ),
        ),
      ),
    ),
  );
  events = refl;
  acts = refl;
}

pub talk_cut_early : TalkCutEarly
talk_cut_early = record {
  linked = (
    (tt, omega arith),
    (
      (commanding, omega arith, omega arith, record { start = (omega arith, omega arith); eight = refl; cells = each_40_fit false 140 (false ∷ false ∷ false ∷ true ∷ false ∷ false ∷ true ∷ false ∷ []) }),
      (
        (commanding, omega arith, omega arith, record { start = (omega arith, omega arith); eight = refl; cells = each_40_fit false 620 (true ∷ true ∷ true ∷ true ∷ false ∷ true ∷ true ∷ false ∷ []) }),
        (
          (record { commanding = refl; listener = refl; talker = refl; gap = omega arith }, omega arith),
          (
            ((refl, record { eight = refl; free = omega arith; signal = tt; accept = omega arith; soon = omega arith }), omega arith, refl),
            (
              refl,
              tt,
            ),
          ),
        ),
      ),
    ),
  );
  events = refl;
  acts = refl;
}

pub two_listeners : TwoListeners
two_listeners = record {
  linked = (
    (tt, omega arith),
    (
      (commanding, omega arith, omega arith, record { start = (omega arith, omega arith); eight = refl; cells = each_40_fit false 180 (false ∷ false ∷ false ∷ true ∷ false ∷ true ∷ false ∷ false ∷ []) }),
      (
        (commanding, omega arith, omega arith, record { start = (omega arith, omega arith); eight = refl; cells = each_40_fit false 681 (true ∷ false ∷ false ∷ true ∷ false ∷ true ∷ false ∷ false ∷ []) }),
        (
          record { commanding = refl; listener = refl; talker = refl; gap = omega arith },
          (
            (refl, omega arith, omega arith, record { start = omega arith; eight = refl; cells = each_40_fit false 1543 (true ∷ false ∷ false ∷ false ∷ false ∷ false ∷ true ∷ false ∷ []) }),
            tt,
          ),
        ),
      ),
    ),
  );
  events = refl;
  acts = refl;
}

pub ties_9_8 : Ties98
ties_9_8 = record {
  linked = (
    (tt, omega arith),
    tt,
  );
  events = refl;
  acts = refl;
}

pub ties_8_9 : Ties89
ties_8_9 = record {
  linked = (
    (tt, omega arith),
    tt,
  );
  events = refl;
  acts = refl;
}

pub beside_a_listener : BesideAListener
beside_a_listener = record {
  linked = (
    (tt, omega arith),
    (
      (commanding, omega arith, omega arith, record { start = (omega arith, omega arith); eight = refl; cells = each_40_fit false 1080 (false ∷ false ∷ false ∷ true ∷ false ∷ true ∷ false ∷ false ∷ []) }),
      (
        record { commanding = refl; listener = refl; talker = refl; gap = omega arith },
        tt,
      ),
    ),
  );
  events = refl;
  acts = refl;
}

pub silent_beside : SilentBeside
silent_beside = record {
  linked = (
    (tt, omega arith),
    (
      (commanding, omega arith, omega arith, record { start = (omega arith, omega arith); eight = refl; cells = each_40_fit false 161 (false ∷ false ∷ false ∷ true ∷ false ∷ false ∷ true ∷ false ∷ []) }),
      (
        ((record { commanding = refl; listener = refl; talker = refl; gap = omega arith }, omega arith, omega arith), omega arith, refl),
        (
          refl,
          tt,
        ),
      ),
    ),
  );
  events = refl;
  acts = refl;
}
