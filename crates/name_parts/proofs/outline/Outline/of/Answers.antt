use Rattle.std.proofs.Common.{sym, ◌∙◌, subst}
use Rattle.name_parts.specs.Outlines.{OutlineOf}
use Rattle.name_parts.proofs.Walked.{Sofar, sofar_more, sofar_all}
use Rattle.name_parts.proofs.outline.Outline.of.Goals as goal

pub loop-start-preserved : goal.loop-start-preserved
loop-start-preserved c =
    let walk = c.loop-start.start-iterator in
    let kept = c.next.ensures.steps.kept in (
      kept ∙ c.loop-start.invariant.0,
      subst (λ t. Sofar t c.next.new.self.at c.note.new.self) (sym kept)
          (sofar_more walk.text.now walk.at c.loop-start.outline c.loop-start.invariant.1 c.next.result c.next.new.self.text.now c.next.new.self.at c.next.ensures.steps c.in-Some.start c.in-Some.part c.in-Some.is c.note.new.self c.note.ensures),
    )

pub returns : goal.returns
returns c =
    let walk = c.loop-start.start-iterator in
    subst (λ t. OutlineOf t c.loop-start.outline) c.loop-start.invariant.0
    (sofar_all walk.text.now walk.at c.loop-start.outline c.loop-start.invariant.1 c.next.result c.next.new.self.text.now c.next.new.self.at c.next.ensures.steps c.in-None.is)
