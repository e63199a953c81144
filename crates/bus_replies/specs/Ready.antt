-- The mark that ends what comes of a line.
use Rattle.std.specs.Prelude.{ℕ, List, [], ◌++◌, codes, decimal, Option, Some, None}

abbrev pub due_text : Option ℕ → List ℕ
due_text None = []
due_text (Some due) = codes " " ++ decimal due

-- `ready MOMENT`, and after it when the next reaction is due, if one is
abbrev pub ready_text : ℕ → Option ℕ → List ℕ
ready_text moment due = codes "ready " ++ decimal moment ++ due_text due ++ codes "\n"
