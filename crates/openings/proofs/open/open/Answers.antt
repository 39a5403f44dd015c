use Rattle.std.proofs.Common.{[], is_some, Ok, ap, refl, ◌∙◌, subst}
use Rattle.std.proofs.lemmas.Result.{err_from_is_err_and}
use Rattle.lists.proofs.Deciding.{lawful_list}
use Rattle.books.specs.Tables.{text_of}
use Rattle.openings.specs.Opening.{Name, Meaning}
use Rattle.openings.specs.Opened.{OpenFault}
use Rattle.openings.specs.Membership.{Agrees}
use Rattle.openings.specs.Answers.{Answered, OpenedAs}
use Rattle.openings.specs.OpeningState.{AllRead}
use Rattle.openings.proofs.Concluding.{refused, answered_alike}
use Rattle.openings.proofs.Beginning.{reads_well, through, halted}
use Rattle.openings.proofs.Ending.{whole, counted, ordered, opened_of}
use Rattle.openings.proofs.open.open.Goals as goal

pub of-opening-requires : goal.of-opening-requires
of-opening-requires g c = reads_well (λ (h : Name). is_some (text_of (g.B.Book.table c.of.result.book.now) h)) (lawful_list _ c.args.list.now.lawful) c.in_ok-names.ensures

pub invariant_of-result : goal.invariant_of-result
invariant_of-result g c =
    let o = c.read_groups.new.opening in
    let ends = c.in_ok-leads.ensures.ends in
    record { room = o.room; whole = whole o ends; counted = counted o ends; ordered = ordered o ends }

pub returns-clause-answer : goal.returns-clause-answer
returns-clause-answer g c =
    let M : Meaning = text_of (g.B.Book.table c.args.book.now) in
    let agree : Agrees [] (λ h. is_some (text_of (g.B.Book.table c.of.result.book.now) h)) M = λ h unknown. ap (λ b. is_some (text_of (g.B.Book.table b) h)) c.of.ensures in
    let read = c.in_ok-read_groups.ensures (through (λ (h : Name). is_some (text_of (g.B.Book.table c.of.result.book.now) h)) (lawful_list _ c.args.list.now.lawful) c.in_ok-names.ensures c.of-opening.result c.of-opening.ensures.met c.of-opening.ensures.none_given M agree) in
    opened_of c.read_groups.new.opening c.in_ok-leads.ensures.ends _ refl refl (read.of_list ∙ c.of-opening.ensures.list) M read.through

pub returns-clause-alike : goal.returns-clause-alike
returns-clause-alike g c M alike = answered_alike (Ok _) (returns-clause-answer g c) alike

pub returns-in_err-leads-clause-answer : goal.returns-in_err-leads-clause-answer
returns-in_err-leads-clause-answer g c =
    let M : Meaning = text_of (g.B.Book.table c.args.book.now) in
    let agree : Agrees [] (λ h. is_some (text_of (g.B.Book.table c.of.result.book.now) h)) M = λ h unknown. ap (λ b. is_some (text_of (g.B.Book.table b) h)) c.of.ensures in
    let read = c.in_ok-read_groups.ensures (through (λ (h : Name). is_some (text_of (g.B.Book.table c.of.result.book.now) h)) (lawful_list _ c.args.list.now.lawful) c.in_ok-names.ensures c.of-opening.result c.of-opening.ensures.met c.of-opening.ensures.none_given M agree) in
    let p = err_from_is_err_and c.from_residual-in_err-leads.result c.from_residual-in_err-leads.ensures.1 in
    rw (p.1, p.2) (refused (subst (λ t. OpenFault M t c.in_err-leads.field-0.0) (read.of_list ∙ c.of-opening.ensures.list) (c.in_err-leads.ensures.circle M read.none_due read.through)))

pub returns-in_err-leads-clause-alike : goal.returns-in_err-leads-clause-alike
returns-in_err-leads-clause-alike g c M alike = answered_alike c.from_residual-in_err-leads.result (returns-in_err-leads-clause-answer g c) alike

pub returns-in_err-names-clause-answer : goal.returns-in_err-names-clause-answer
returns-in_err-names-clause-answer g c =
    let M : Meaning = text_of (g.B.Book.table c.args.book.now) in
    let agree : Agrees [] (λ h. is_some (text_of (g.B.Book.table c.of.result.book.now) h)) M = λ h unknown. ap (λ b. is_some (text_of (g.B.Book.table b) h)) c.of.ensures in
    let p = err_from_is_err_and c.from_residual.result c.from_residual.ensures.1 in
    rw (p.1, p.2) (refused (halted (λ (h : Name). is_some (text_of (g.B.Book.table c.of.result.book.now) h)) (lawful_list _ c.args.list.now.lawful) c.in_err-names.ensures M agree))

pub returns-in_err-names-clause-alike : goal.returns-in_err-names-clause-alike
returns-in_err-names-clause-alike g c M alike = answered_alike c.from_residual.result (returns-in_err-names-clause-answer g c) alike

pub returns-in_err-read_groups-clause-answer : goal.returns-in_err-read_groups-clause-answer
returns-in_err-read_groups-clause-answer g c =
    let M : Meaning = text_of (g.B.Book.table c.args.book.now) in
    let agree : Agrees [] (λ h. is_some (text_of (g.B.Book.table c.of.result.book.now) h)) M = λ h unknown. ap (λ b. is_some (text_of (g.B.Book.table b) h)) c.of.ensures in
    let p = err_from_is_err_and c.from_residual-in_err-read_groups.result c.from_residual-in_err-read_groups.ensures.1 in
    rw (p.1, p.2) (refused (subst (λ t. OpenFault M t c.in_err-read_groups.field-0.0) c.of-opening.ensures.list (c.in_err-read_groups.ensures (through (λ (h : Name). is_some (text_of (g.B.Book.table c.of.result.book.now) h)) (lawful_list _ c.args.list.now.lawful) c.in_ok-names.ensures c.of-opening.result c.of-opening.ensures.met c.of-opening.ensures.none_given M agree))))

pub returns-in_err-read_groups-clause-alike : goal.returns-in_err-read_groups-clause-alike
returns-in_err-read_groups-clause-alike g c M alike = answered_alike c.from_residual-in_err-read_groups.result (returns-in_err-read_groups-clause-answer g c) alike
