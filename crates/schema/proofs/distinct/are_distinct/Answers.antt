use Rattle.std.proofs.Common.{◌+◌, ◌++◌, get_or, take, drop, sym, ap, ◌∙◌, subst}
use Rattle.std.proofs.lemmas.List.{take_more, take_all, at_drop_more, take-append-drop}
use Rattle.ids.specs.Sets.{has, with_id}
use Rattle.model.specs.declared.Element.TheVariants.{Activity}
use Rattle.schema.specs.Causes.{Fine}
use Rattle.schema.specs.Checks.{distinct}
use Rattle.schema.specs.Reading.{among}
use Rattle.schema.proofs.Wrongs.{fine_distinct}
use Rattle.schema.proofs.Distincts.{fresh_fine, fresh_seen, stale}
use Rattle.schema.proofs.distinct.are_distinct.Goals as goal

pub loop-element-init : goal.loop-element-init
loop-element-init c = record { fine = (tt, λ u a. elim a [ ]); seen = c.empty-seen.ensures.members }

pub returns-then-not-is_fresh : goal.returns-then-not-is_fresh
returns-then-not-is_fresh c =
    let row = c.args.row.now in
    let i = c.loop-element.element-index in
    sym
    (ap distinct (sym (take-append-drop i row))
    ∙ at_drop_more (λ ys. distinct (take i row ++ ys)) row i (Activity 0) c.loop-element-test.true
    ∙ stale c.loop-element.seen (take i row) c.loop-element.invariant.seen (get_or row i (Activity 0)) (drop (i + 1) row) (sym c.is_fresh.ensures ∙ c.if-not-is_fresh.true))

pub loop-element-preserved : goal.loop-element-preserved
loop-element-preserved c =
    let row = c.args.row.now in
    let at = c.loop-element in
    let i = at.element-index in
    let grown = sym (take_more row i (Activity 0) c.loop-element-test.true) in
    let e = sym c.is_fresh.ensures ∙ c.if-not-is_fresh.false in
    record {
      fine = subst Fine grown (fresh_fine at.seen (take i row) at.invariant.seen (get_or row i (Activity 0)) e at.invariant.fine);
      seen = λ u.
          ap (λ t. has t u) (c.with-seen.ensures.value ∙ ap (with_id at.seen) c.id.ensures)
          ∙ fresh_seen at.seen (take i row) at.invariant.seen (get_or row i (Activity 0)) e u
          ∙ ap (λ xs. among xs u) grown;
    }

pub returns : goal.returns
returns c =
    sym (fine_distinct c.args.row.now (subst Fine (take_all c.loop-element.element-index c.args.row.now c.loop-element-test.false) c.loop-element.invariant.fine))
