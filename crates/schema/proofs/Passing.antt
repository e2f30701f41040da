-- What passed the three checks passes. Assumes nothing.
use Rattle.std.proofs.Common.{◌≡◌, true, false, not, ◌&&◌, List, [], is_some, is_ok, Ok, sym, ap, ◌∙◌}
use Rattle.model.specs.declared.Element.{Element}
use Rattle.model.specs.declared.Edge.{Edge}
use Rattle.blocks.specs.Blocks.{fault}
use Rattle.edges.specs.Verdicts.{edges_verdict}
use Rattle.schema.specs.Checks.{distinct, passes}

pub passed_all : (row : List Element) (es : List Edge) (u : Unit {0}) → distinct row ≡ true → is_some (fault [] 0 row) ≡ false → Ok u ≡ edges_verdict row es → passes row es ≡ true
passed_all row es u ids nested ok =
    ap (λ b. b && (not (is_some (fault [] 0 row)) && is_ok (edges_verdict row es))) ids
    ∙ ap (λ b. not b && is_ok (edges_verdict row es)) nested
    ∙ ap is_ok (sym ok)
