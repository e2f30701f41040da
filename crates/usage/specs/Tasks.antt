-- What a program is asked for by the words behind its name. Assumes nothing.
--   help                 the characters of `--help`
--   after_word t word    what is asked for with one more word, if a program takes it there
use Rattle.std.specs.Prelude.{ℕ, cond, List, Some, None, Option, codes, bytes_eq}
use Rattle.usage.specs.declared.Task.{Task}
use Rattle.usage.specs.declared.Task.TheVariants.{Work, Help}

abbrev pub help : List ℕ
help = codes "--help"

-- The help is asked for by one word, and nothing besides.
abbrev pub after_word : Task → List ℕ → Option Task
after_word Work word = cond (bytes_eq word help) (Some Help) None
after_word Help word = None
