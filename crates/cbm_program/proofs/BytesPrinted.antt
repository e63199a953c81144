-- A get, printed byte by byte, each as it comes.
use Rattle.std.proofs.Common.{◌≡◌, ℕ, ◌≤◌, List, [], ◌∷◌, ◌++◌, length, length-append, Option, Some, refl, ap, sym, ◌∙◌, subst, arith, append_assoc, append-nil, codes, true, false, Bool}
use Rattle.std.specs.Prelude.{decimal, flat_map}
use Rattle.std.specs.Io.KnownBytes.{Appends}
use Rattle.std.proofs.lemmas.Grind.{flat_map-append}
use Rattle.cbm_machine.specs.Machines.{Machine}
use Rattle.cbm_iec.specs.declared.pace.Pace.{Pace}
use Rattle.cbm_medium.specs.Seen.{Seen}
use Rattle.cbm_host.specs.Engines.{channel_of}
use Rattle.cbm_host.specs.Hosted.{AreFirst, Rests, IsUnderWay, IsGoingOn, IsOver}
use Rattle.cbm_host.specs.Performers.{Performing}
use Rattle.cbm_talk.specs.Talks.{TalkSaid}
use Rattle.cbm_host.specs.Served.{served, talked_at, IsModest}
use Rattle.cbm_host.specs.declared.request.Request as asks
use Rattle.cbm_program.specs.Output.{AppendsPart}
use Rattle.cbm_program.specs.Scripts.{hex, eoi_mark, bytes_text, get_line}
use Rattle.cbm_program.specs.Units.{unit_text, said_text, get_head, PrintsRest, PrintsRestPart}
use Rattle.bus_traces.proofs.Appending.{appends-nothing, appends-more}
use Rattle.cbm_program.proofs.OutputLemmas.{part_after, part_before}
use Rattle.cbm_host.specs.KeptHostings.{KeptHosting}

-- ---- texts

pub unit_is : (b : ℕ) (l : Bool) → unit_text (Some (b, l)) ≡ said_text (b ∷ []) l
unit_is b true = refl
unit_is b false = refl

-- one byte more
one_more : (bytes : List ℕ) (b : ℕ) (l : Bool) → said_text (bytes ++ b ∷ []) l ≡ said_text bytes false ++ unit_text (Some (b, l))
one_more bytes b l =
    ap (λ t. t ++ eoi_mark l) (flat_map-append hex bytes (b ∷ []))
    ∙ append_assoc (flat_map hex bytes) (flat_map hex (b ∷ [])) (eoi_mark l)
    ∙ ap (λ t. flat_map hex bytes ++ t) (sym (unit_is b l))
    ∙ ap (λ t. t ++ unit_text (Some (b, l))) (sym (append-nil (flat_map hex bytes)))

-- what was said begins with the bytes so far
begins : (bytes : List ℕ) (last : Bool) (whole : List ℕ) (marked : Bool) → AreFirst bytes last whole marked → (rest : List ℕ) × (said_text whole marked ≡ said_text bytes last ++ rest)
begins bytes true whole marked f =
    let k = f.all refl in
    ([], ap (λ l. said_text l marked) (f.front ∙ ap (λ l. bytes ++ l) k.0 ∙ append-nil bytes) ∙ ap (λ v. said_text bytes v) k.1 ∙ sym (append-nil (said_text bytes true)))
begins bytes false whole marked f = (
  flat_map hex f.more ++ eoi_mark marked,
  ap (λ l. said_text l marked) f.front ∙ ap (λ t. t ++ eoi_mark marked) (flat_map-append hex bytes f.more) ∙ append_assoc (flat_map hex bytes) (flat_map hex f.more) (eoi_mark marked)
      ∙ ap (λ t. t ++ (flat_map hex f.more ++ eoi_mark marked)) (sym (append-nil (flat_map hex bytes))),
)

-- after the last byte none comes
not_last : (bytes : List ℕ) (last : Bool) (b : ℕ) (l : Bool) (whole : List ℕ) (marked : Bool) → AreFirst bytes last whole marked → AreFirst (bytes ++ b ∷ []) l whole marked → last ≡ false
not_last bytes false b l whole marked f g = refl
not_last bytes true b l whole marked f g =
    let none = (f.all refl).0 in
    let one = ap (λ (x : List ℕ). length x) (f.front ∙ ap (λ x. bytes ++ x) none) ∙ length-append bytes [] in
    let two = ap (λ (x : List ℕ). length x) g.front ∙ length-append (bytes ++ b ∷ []) g.more in
    let three = length-append bytes (b ∷ []) in
    absurd (omega (arith, one, two, three))

-- ---- bytes after the first

module _ {M : Type 0} (seen : M → Seen) where
  -- these bytes came, and all that is printed of them after the first ones was written
  pub record Gone (a b : Option (List ℕ)) (h : KeptHosting M) (p : Performing) (m : Machine) (request : asks.Request) (bytes : List ℕ) (last : Bool) : Type 0 where
    pub now : List ℕ
    pub mark : Bool
    pub going : IsGoingOn seen h p m request now mark
    pub rest : List ℕ
    pub text : said_text now mark ≡ said_text bytes last ++ rest
    pub written : Appends a b rest

  -- the same from each machine
  abbrev pub Goes : Option (List ℕ) → Option (List ℕ) → KeptHosting M → Performing → KeptHosting M → Performing → Type 0
  Goes a b h p k q = (m : Machine) (request : asks.Request) (bytes : List ℕ) (last : Bool) → channel_of request ≤ 15 → IsModest request → IsGoingOn seen h p m request bytes last → Gone a b k q m request bytes last

  abbrev pub OnByte : KeptHosting M → Performing → KeptHosting M → Performing → ℕ × Bool → Type 0
  OnByte h p k q said = (m : Machine) (request : asks.Request) (bytes : List ℕ) (last : Bool) → channel_of request ≤ 15 → IsModest request → IsUnderWay seen h p m request bytes last → IsGoingOn seen k q m request (bytes ++ said.0 ∷ []) said.1

  abbrev pub OnEnd : KeptHosting M → Performing → KeptHosting M → Type 0
  OnEnd h p k = (m : Machine) (request : asks.Request) (bytes : List ℕ) (last : Bool) → channel_of request ≤ 15 → IsModest request → IsUnderWay seen h p m request bytes last → IsOver seen k m request bytes last

  pub goes_none : (a : Option (List ℕ)) (h : KeptHosting M) (p : Performing) → Goes a a h p h p
  goes_none a h p m request bytes last channel modest g = record { now = bytes; mark = last; going = g; rest = []; text = sym (append-nil (said_text bytes last)); written = appends-nothing a }

  -- what was said, at a pace that the drive keeps
  pub first_at : (e : Pace) (h : KeptHosting M) (p : Performing) (m : Machine) (request : asks.Request) (bytes : List ℕ) (last : Bool) → h.pace ≡ e → IsGoingOn seen h p m request bytes last → AreFirst bytes last (served e request m).bytes (served e request m).marked
  first_at e h p m request bytes last same g = subst (λ (x : Pace). AreFirst bytes last (served x request m).bytes (served x request m).marked) same g.first

  pub record IsOverAt (e : Pace) (h : KeptHosting M) (m : Machine) (request : asks.Request) (bytes : List ℕ) (last : Bool) : Type 0 where
    pub rests : Rests seen h (served e request m).machine
    pub said : bytes ≡ (served e request m).bytes
    pub marked : last ≡ (served e request m).marked

  pub over_at : (e : Pace) (h : KeptHosting M) (m : Machine) (request : asks.Request) (bytes : List ℕ) (last : Bool) → h.pace ≡ e → IsOver seen h m request bytes last → IsOverAt e h m request bytes last
  over_at e h m request bytes last same o = subst (λ (x : Pace). IsOverAt x h m request bytes last) same (record { rests = o.rests; said = o.said; marked = o.marked })

  pub goes_on : (a b c : Option (List ℕ)) (h k i : KeptHosting M) (p q r : Performing) (byte : ℕ) (l : Bool) → i.pace ≡ k.pace → Goes a b h p k q → OnByte k q i r (byte, l) → Appends b c (unit_text (Some (byte, l))) → Goes a c h p i r
  goes_on a b c h k i p q r byte l same goes next more m request bytes last channel modest g =
      let o = goes m request bytes last channel modest g in
      let n = next m request o.now o.mark channel modest o.going.under_way in
      let first = first_at k.pace i r m request (o.now ++ byte ∷ []) l same n in
      let unmarked = not_last o.now o.mark byte l (served k.pace request m).bytes (served k.pace request m).marked o.going.first first in
      record {
        now = o.now ++ byte ∷ [];
        mark = l;
        going = n;
        rest = o.rest ++ unit_text (Some (byte, l));
        text = one_more o.now byte l ∙ ap (λ v. said_text o.now v ++ unit_text (Some (byte, l))) (sym unmarked) ∙ ap (λ t. t ++ unit_text (Some (byte, l))) o.text ∙ append_assoc (said_text bytes last) o.rest (unit_text (Some (byte, l)));
        written = appends-more a b c o.rest (unit_text (Some (byte, l))) o.written more;
      }

  -- a byte broke off
  pub goes_part : (a b c : Option (List ℕ)) (h k i : KeptHosting M) (p q r : Performing) (byte : ℕ) (l : Bool) → i.pace ≡ k.pace → k.pace ≡ h.pace → Goes a b h p k q → OnByte k q i r (byte, l) → AppendsPart b c (unit_text (Some (byte, l)))
      → (m : Machine) (request : asks.Request) (bytes : List ℕ) (last : Bool) → channel_of request ≤ 15 → IsModest request → IsGoingOn seen h p m request bytes last → PrintsRestPart a c bytes last (served h.pace request m)
  goes_part a b c h k i p q r byte l same paced goes next part m request bytes last channel modest g =
      let o = goes m request bytes last channel modest g in
      let n = next m request o.now o.mark channel modest o.going.under_way in
      let first = first_at h.pace i r m request (o.now ++ byte ∷ []) l (same ∙ paced) n in
      let unmarked = not_last o.now o.mark byte l (served h.pace request m).bytes (served h.pace request m).marked (first_at h.pace k q m request o.now o.mark paced o.going) first in
      let more = begins (o.now ++ byte ∷ []) l (served h.pace request m).bytes (served h.pace request m).marked first in
      let unit = unit_text (Some (byte, l)) in
      record {
        rest = (o.rest ++ unit_text (Some (byte, l))) ++ more.0;
        whole = more.1 ∙ ap (λ t. t ++ more.0) (one_more o.now byte l ∙ ap (λ v. said_text o.now v ++ unit_text (Some (byte, l))) (sym unmarked) ∙ ap (λ t. t ++ unit_text (Some (byte, l))) o.text ∙ append_assoc (said_text bytes last) o.rest (unit_text (Some (byte, l))))
            ∙ append_assoc (said_text bytes last) (o.rest ++ unit_text (Some (byte, l))) more.0;
        written = part_before a c (o.rest ++ unit_text (Some (byte, l))) more.0 (part_after a b c o.rest (unit_text (Some (byte, l))) o.written part);
      }

  -- all bytes came
  pub goes_over : (a b : Option (List ℕ)) (h k i : KeptHosting M) (p q : Performing) → i.pace ≡ h.pace → Goes a b h p k q → OnEnd k q i
      → (m : Machine) (request : asks.Request) (bytes : List ℕ) (last : Bool) → channel_of request ≤ 15 → IsModest request → IsGoingOn seen h p m request bytes last → Rests seen i (served h.pace request m).machine × PrintsRest a b bytes last (served h.pace request m)
  goes_over a b h k i p q same goes over m request bytes last channel modest g =
      let o = goes m request bytes last channel modest g in
      let e = over_at h.pace i m request o.now o.mark same (over m request o.now o.mark channel modest o.going.under_way) in
      (e.rests, record { rest = o.rest; whole = ap (λ l. said_text l (served h.pace request m).marked) (sym e.said) ∙ ap (λ v. said_text o.now v) (sym e.marked) ∙ o.text; written = o.written })

-- ---- the whole line

none_line : (ch : ℕ) (said : TalkSaid) → [] ≡ said.bytes → get_line ch said ≡ get_head ch (codes " none\n")
none_line ch said e =
    ap (λ l. codes "get " ++ decimal ch ++ codes " " ++ bytes_text l said.marked ++ codes "\n") (sym e)
    ∙ (append_assoc (codes "get " ++ decimal ch ++ codes " ") (codes "none") (codes "\n") ∙ append_assoc (codes "get " ++ decimal ch) (codes " ") (codes "none\n"))

text_of_some : (bytes : List ℕ) (marked : Bool) (x : ℕ) (rest : List ℕ) → bytes ≡ x ∷ rest → bytes_text bytes marked ≡ said_text bytes marked
text_of_some bytes marked x rest e = rw e refl

some_line : (ch : ℕ) (said : TalkSaid) (x : ℕ) (rest : List ℕ) → said.bytes ≡ x ∷ rest → get_line ch said ≡ (get_head ch (codes " ") ++ said_text said.bytes said.marked) ++ codes "\n"
some_line ch said x rest e = ap (λ t. codes "get " ++ decimal ch ++ codes " " ++ t ++ codes "\n") (text_of_some said.bytes said.marked x rest e)

pub line_none : (a b : Option (List ℕ)) (ch : ℕ) (said : TalkSaid) → [] ≡ said.bytes → Appends a b (get_head ch (codes " none\n")) → Appends a b (get_line ch said)
line_none a b ch said e written = subst (λ t. Appends a b t) (sym (none_line ch said e)) written

pub line_none_part : (a b : Option (List ℕ)) (ch : ℕ) (said : TalkSaid) → [] ≡ said.bytes → AppendsPart a b (get_head ch (codes " none\n")) → AppendsPart a b (get_line ch said)
line_none_part a b ch said e written = subst (λ t. AppendsPart a b t) (sym (none_line ch said e)) written

pub line_head_part : (a b : Option (List ℕ)) (ch x : ℕ) (l : Bool) (said : TalkSaid) → AreFirst (x ∷ []) l said.bytes said.marked → AppendsPart a b (get_head ch (codes " ")) → AppendsPart a b (get_line ch said)
line_head_part a b ch x l said f part =
    subst (λ t. AppendsPart a b t) (sym (some_line ch said x f.more f.front))
    (part_before a b (get_head ch (codes " ") ++ said_text said.bytes said.marked) (codes "\n") (part_before a b (get_head ch (codes " ")) (said_text said.bytes said.marked) part))

pub line_byte_part : (a b c : Option (List ℕ)) (ch x : ℕ) (l : Bool) (said : TalkSaid) → AreFirst (x ∷ []) l said.bytes said.marked → Appends a b (get_head ch (codes " ")) → AppendsPart b c (unit_text (Some (x, l))) → AppendsPart a c (get_line ch said)
line_byte_part a b c ch x l said f head part =
    let more = begins (x ∷ []) l said.bytes said.marked f in
    subst (λ t. AppendsPart a c t) (sym (some_line ch said x f.more f.front))
    (part_before a c (get_head ch (codes " ") ++ said_text said.bytes said.marked) (codes "\n")
    (part_after a b c (get_head ch (codes " ")) (said_text said.bytes said.marked) head
    (subst (λ t. AppendsPart b c t) (ap (λ t. t ++ more.0) (unit_is x l) ∙ sym more.1) (part_before b c (unit_text (Some (x, l))) more.0 part))))

pub line_rest_part : (a b c d : Option (List ℕ)) (ch x : ℕ) (l : Bool) (said : TalkSaid) → AreFirst (x ∷ []) l said.bytes said.marked → Appends a b (get_head ch (codes " ")) → Appends b c (unit_text (Some (x, l)))
    → PrintsRestPart c d (x ∷ []) l said → AppendsPart a d (get_line ch said)
line_rest_part a b c d ch x l said f head unit rest =
    subst (λ t. AppendsPart a d t) (sym (some_line ch said x f.more f.front))
    (part_before a d (get_head ch (codes " ") ++ said_text said.bytes said.marked) (codes "\n")
    (part_after a b d (get_head ch (codes " ")) (said_text said.bytes said.marked) head
    (subst (λ t. AppendsPart b d t) (ap (λ t. t ++ rest.rest) (unit_is x l) ∙ sym rest.whole) (part_after b c d (unit_text (Some (x, l))) rest.rest unit rest.written))))

-- the bytes after the first, of an answer at one pace as at another
pub rest_at : (a b : Option (List ℕ)) (x : ℕ) (l : Bool) (channel most : ℕ) (m : Machine) (e f : Pace) → e ≡ f → PrintsRest a b (x ∷ []) l (talked_at e channel most m) → PrintsRest a b (x ∷ []) l (talked_at f channel most m)
rest_at a b x l channel most m e f same = subst (λ (v : Pace). PrintsRest a b (x ∷ []) l (talked_at v channel most m)) same

pub rest_part_at : (a b : Option (List ℕ)) (x : ℕ) (l : Bool) (channel most : ℕ) (m : Machine) (e f : Pace) → e ≡ f → PrintsRestPart a b (x ∷ []) l (talked_at e channel most m) → PrintsRestPart a b (x ∷ []) l (talked_at f channel most m)
rest_part_at a b x l channel most m e f same = subst (λ (v : Pace). PrintsRestPart a b (x ∷ []) l (talked_at v channel most m)) same

all_bytes : (a b c d : Option (List ℕ)) (ch x : ℕ) (l : Bool) (said : TalkSaid) → Appends a b (get_head ch (codes " ")) → Appends b c (unit_text (Some (x, l))) → PrintsRest c d (x ∷ []) l said → Appends a d (get_head ch (codes " ") ++ said_text said.bytes said.marked)
all_bytes a b c d ch x l said head unit rest =
    appends-more a b d (get_head ch (codes " ")) (said_text said.bytes said.marked) head
    (subst (λ t. Appends b d t) (ap (λ t. t ++ rest.rest) (unit_is x l) ∙ sym rest.whole) (appends-more b c d (unit_text (Some (x, l))) rest.rest unit rest.written))

pub line_all : (a b c d e : Option (List ℕ)) (ch x : ℕ) (l : Bool) (said : TalkSaid) → AreFirst (x ∷ []) l said.bytes said.marked → Appends a b (get_head ch (codes " ")) → Appends b c (unit_text (Some (x, l))) → PrintsRest c d (x ∷ []) l said
    → Appends d e (codes "\n") → Appends a e (get_line ch said)
line_all a b c d e ch x l said f head unit rest end =
    subst (λ t. Appends a e t) (sym (some_line ch said x f.more f.front))
    (appends-more a d e (get_head ch (codes " ") ++ said_text said.bytes said.marked) (codes "\n") (all_bytes a b c d ch x l said head unit rest) end)

pub line_end_part : (a b c d e : Option (List ℕ)) (ch x : ℕ) (l : Bool) (said : TalkSaid) → AreFirst (x ∷ []) l said.bytes said.marked → Appends a b (get_head ch (codes " ")) → Appends b c (unit_text (Some (x, l))) → PrintsRest c d (x ∷ []) l said
    → AppendsPart d e (codes "\n") → AppendsPart a e (get_line ch said)
line_end_part a b c d e ch x l said f head unit rest part =
    subst (λ t. AppendsPart a e t) (sym (some_line ch said x f.more f.front))
    (part_after a d e (get_head ch (codes " ") ++ said_text said.bytes said.marked) (codes "\n") (all_bytes a b c d ch x l said head unit rest) part)
