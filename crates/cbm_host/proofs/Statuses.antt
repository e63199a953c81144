-- The status as it is read to its end.
pub use Rattle.cbm_talk.proofs.Spoken.{says_from}
use Rattle.std.proofs.Common.{◌≡◌, ℕ, zero, suc, ◌+◌, ◌-◌, ◌≤◌, List, [], ◌∷◌, ◌++◌, length, drop, ap, sym, ◌∙◌, arith, length-drop, drop-drop, true, if◌then◌else◌}
use Rattle.std.specs.Prelude.{nat_lt}
use Rattle.cbm_channel.specs.declared.Code.{Code}
use Rattle.cbm_channel.specs.declared.Code.TheVariants.{Fine, FilesScratched, NoHeader, NoSync, NoData, DataChecksum, DataCode, WriteFailed, WriteProtected, HeaderChecksum, LongData, WrongId, Syntax, UnknownCommand, LongText, WildName, NoName, NoRecord, RecordOverflow, FileTooLarge, WriteFileOpen, FileNotOpen, FileNotFound, FileExists, WrongType, NoBlock, WrongLink, NoChannel, EndlessChain, DiskFull, PowerUp, DriveNotReady}
use Rattle.cbm_channel.specs.declared.Status.{Status}
use Rattle.cbm_machine.specs.Codes.{code_text}
use Rattle.cbm_machine.specs.Statuses.{status_line}
use Rattle.cbm_machine.specs.Machines.{Machine, say}
use Rattle.cbm_machine.specs.Talking.{taken}
use Rattle.cbm_file.specs.Waiting.{next_shown}
use Rattle.cbm_talk.specs.Talks.{says}
use Rattle.cbm_talk.proofs.Spoken.{none_said}

text_short : (c : Code) → length (code_text c) ≤ 23
text_short Fine = omega arith
text_short FilesScratched = omega arith
text_short NoHeader = omega arith
text_short NoSync = omega arith
text_short NoData = omega arith
text_short DataChecksum = omega arith
text_short DataCode = omega arith
text_short WriteFailed = omega arith
text_short WriteProtected = omega arith
text_short HeaderChecksum = omega arith
text_short LongData = omega arith
text_short WrongId = omega arith
text_short Syntax = omega arith
text_short UnknownCommand = omega arith
text_short LongText = omega arith
text_short WildName = omega arith
text_short NoName = omega arith
text_short NoRecord = omega arith
text_short RecordOverflow = omega arith
text_short FileTooLarge = omega arith
text_short WriteFileOpen = omega arith
text_short FileNotOpen = omega arith
text_short FileNotFound = omega arith
text_short FileExists = omega arith
text_short WrongType = omega arith
text_short NoBlock = omega arith
text_short WrongLink = omega arith
text_short NoChannel = omega arith
text_short EndlessChain = omega arith
text_short DiskFull = omega arith
text_short PowerUp = omega arith
text_short DriveNotReady = omega arith

pub line_short : (s : Status) → length (status_line s) ≤ 33
line_short s = let t = text_short s.code in grind (arith, t)

-- ---- the line is read to its end, however many bytes are asked for

drop-more : (n : ℕ) (xs : List ℕ) (x : ℕ) (rest : List ℕ) → drop n xs ≡ x ∷ rest → drop (n + 1) xs ≡ rest
drop-more n xs x rest e = sym (drop-drop 1 n xs) ∙ ap (λ l. drop 1 l) e

-- after a byte that isn't the last, the next one is told
told_next : (m : Machine) (c d : ℕ) (rest : List ℕ) → drop m.told (status_line m.status) ≡ c ∷ d ∷ rest → taken 15 m ≡ record m { told = m.told + 1 }
told_next m c d rest e =
    let l = length-drop m.told (status_line m.status) in
    let k : length (c ∷ d ∷ rest) ≡ length (status_line m.status) - m.told = sym (ap (λ (t : List ℕ). length t) e) ∙ l in
    let more : nat_lt (m.told + 1) (length (status_line m.status)) ≡ true = grind (arith, k) in
    ap (λ b. if b then record m { told = m.told + 1 } else say Fine m) more

-- and of the line those after it are left
pub left_after_it : (m : Machine) (c d : ℕ) (rest : List ℕ) → drop m.told (status_line m.status) ≡ c ∷ d ∷ rest → drop (taken 15 m).told (status_line (taken 15 m).status) ≡ d ∷ rest
left_after_it m c d rest e =
    ap (λ (x : Machine). drop x.told (status_line x.status)) (told_next m c d rest e) ∙ drop-more m.told (status_line m.status) c (d ∷ rest) e

-- Any two numbers of bytes that suffice say the same.
pub enough : (left : List ℕ) (k n : ℕ) (so_far : List ℕ) (m : Machine) → drop m.told (status_line m.status) ≡ left → length left ≤ k → length left ≤ n
    → says k 15 so_far m ≡ says n 15 so_far m
enough [] k n so_far m e a b = none_said k 15 so_far m (ap next_shown e) ∙ sym (none_said n 15 so_far m (ap next_shown e))
enough (c ∷ []) zero n so_far m e a b = absurd (omega arith)
enough (c ∷ []) (suc k) zero so_far m e a b = absurd (omega arith)
enough (c ∷ []) (suc k) (suc n) so_far m e a b =
    ap (λ p. says_from p k 15 so_far m) (ap next_shown e) ∙ sym (ap (λ p. says_from p n 15 so_far m) (ap next_shown e))
enough (c ∷ d ∷ rest) zero n so_far m e a b = absurd (omega arith)
enough (c ∷ d ∷ rest) (suc k) zero so_far m e a b = absurd (omega arith)
enough (c ∷ d ∷ rest) (suc k) (suc n) so_far m e a b =
    ap (λ p. says_from p k 15 so_far m) (ap next_shown e)
    ∙ (enough (d ∷ rest) k n (so_far ++ c ∷ []) (taken 15 m) (left_after_it m c d rest e) (omega (arith, a)) (omega (arith, b))
    ∙ sym (ap (λ p. says_from p n 15 so_far m) (ap next_shown e)))

-- what is left of the line has at most 33 bytes
pub left_short : (m : Machine) → length (drop m.told (status_line m.status)) ≤ 33
left_short m = let whole = line_short m.status in let d = length-drop m.told (status_line m.status) in omega (arith, d, whole)
