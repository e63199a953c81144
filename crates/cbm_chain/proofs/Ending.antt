-- The last block is written: a writer's blocks are a chain of its bytes.
use Rattle.std.proofs.Common.{◌≡◌, ◌≢◌, ℕ, List, [], ◌∷◌, ◌++◌, IsOk, refl, sym, ap, subst, ◌∙◌, Option, Some, None, Ok}
use Rattle.cbm_medium.specs.Place.{Place}
use Rattle.cbm_medium.specs.Content.{Cell, Content, written}
use Rattle.cbm_medium.specs.Links.{bytes_at, link, or_nothing, Chain}
use Rattle.cbm_medium.proofs.Places.{written_there, written_elsewhere}
use Rattle.cbm_chain.specs.Data.{data_of, chain_bytes}
use Rattle.cbm_chain.specs.Writing.{State, Part, part_bytes, last_block_of, last_of, place_or_none, Wrote, EndsChain, IsChainOf}
use Rattle.cbm_chain.proofs.Parts.{part_last, part_chain, part_chain_bytes}

-- the blocks of a writer whose last one is written
pub record IsEnded (tracks : ℕ) (c : Content) (b : Place) (rest : List Place) (bytes : List ℕ) : Type 0 where
  pub part : Part tracks c (b ∷ rest)
  pub reads : IsOk (c (last_of b rest))
  pub ends : (link (bytes_at c (last_of b rest))).track ≡ 0
  pub bytes_are : chain_bytes c (b ∷ rest) ≡ bytes

-- with the write of the last block
pub record EndsAt (tracks : ℕ) (c c' : Content) (b : Place) (rest : List Place) (bytes : List ℕ) : Type 0 where
  pub sector : List ℕ
  pub written : c' ≡ written c (last_of b rest) sector
  pub ended : IsEnded tracks c' b rest bytes

pub ends_at : (c c' : Content) (s : State) (b : Place) (rest : List Place) (bytes : List ℕ) → Wrote c s (b ∷ rest) bytes → EndsChain c c' s.current s.waiting → EndsAt s.tracks c c' b rest bytes
ends_at c c' s b rest bytes h e = by_current s.current h.current e
  where
    by_current : (x : Option Place) → x ≡ last_block_of (b ∷ rest) → EndsChain c c' x s.waiting → EndsAt s.tracks c c' b rest bytes
    by_current None z e = absurd (cc)
    by_current (Some p) z e =
        let sector : List ℕ = e.0 in
        let at : p ≡ last_of b rest = cc in
        let new : c' ≡ written c (last_of b rest) sector = e.3 ∙ ap (λ (x : Place). written c x sector) at in
        let there : c' (last_of b rest) ≡ Ok sector = ap (λ (x : Content). x (last_of b rest)) new ∙ written_there c (last_of b rest) sector in
        let bytes_there : bytes_at c' (last_of b rest) ≡ sector = ap (λ (x : Cell). or_nothing x) there in
        let others : (q : Place) → q ≢ last_of b rest → c' q ≡ c q = λ q ne. ap (λ (x : Content). x q) new ∙ written_elsewhere c (last_of b rest) q sector (λ y. ne (sym y)) in
        let part = part_last s.tracks c c' b rest h.part others in
        record {
          sector = sector;
          written = new;
          ended = record {
            part = part.0;
            reads = subst (λ (x : Cell). IsOk x) (sym there) refl;
            ends = ap (λ (x : List ℕ). (link x).track) bytes_there ∙ ap (λ (x : Place). x.track) e.1.link;
            bytes_are = part_chain_bytes s.tracks c' b rest part.0 ∙ ap (λ (x : List ℕ). x ++ data_of (bytes_at c' (last_of b rest))) part.1
                ∙ ap (λ (x : List ℕ). part_bytes c (b ∷ rest) ++ x) (ap data_of bytes_there ∙ e.1.holds) ∙ sym h.all;
          };
        }

pub chain_ended : (c c' : Content) (s : State) (blocks : List Place) (bytes : List ℕ) → Wrote c s blocks bytes → EndsChain c c' s.current s.waiting → IsChainOf s.tracks c' (place_or_none s.first) blocks bytes
chain_ended c c' s [] bytes h e = record {
  chain = ap (λ (o : Option Place). (place_or_none o).track) h.first;
  holds = sym (h.all ∙ h.none h.current);
}
chain_ended c c' s (b ∷ rest) bytes h e =
    let k : IsEnded s.tracks c' b rest bytes = (ends_at c c' s b rest bytes h e).ended in
    record {
      chain = subst (λ (x : Place). Chain s.tracks c' x (b ∷ rest)) (sym (ap place_or_none h.first)) (part_chain s.tracks c' b rest k.part k.reads k.ends);
      holds = k.bytes_are;
    }
