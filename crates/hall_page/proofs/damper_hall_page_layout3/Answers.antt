use Rattle.std.proofs.Common.{◌≡◌, ℕ, ◌+◌, ◌*◌, ◌<◌, List, length, get_or, refl, sym, ◌∙◌, arith}
use Rattle.std.proofs.lemmas.List.{get_or_default}
use Rattle.damper.specs.declared.Drive.{Drive}
use Rattle.damper.specs.Record.{fresh_drive}
use Rattle.line.specs.Line.{Written}
use Rattle.hall.specs.Laws.{number_some}
use Rattle.shift.specs.Shift.{drive_line, page_refusal}
use Rattle.shift.specs.Laws.{line_length, Lines, lines_fit, page_by, page_start, page_turn, page_end, page_refused}
use Rattle.hall_page.proofs.damper_hall_page_layout3.Goals as goal

-- what is known of the lines of a call that is carried out
known : (row : List Drive) (page : List ℕ) → 0 ≡ page_refusal (length row) (length page) → Lines row page (length row)
known row page passed = rw (← passed)

-- a turn, of the drive at the place, whatever would be read past the row
next_line : (row : List Drive) (page : List ℕ) (k at : ℕ) (d : Drive) (old new : List ℕ) (r : ℕ) → Lines row page (length row) → k < length row
    → at ≡ 29 * k → old ≡ page_by row page k → Written old new at r (drive_line k (get_or row k d)) → (r ≡ 29 * (k + 1)) × (new ≡ page_by row page (k + 1))
next_line row page k at d old new r w l start before e =
    let line = rw (start, before, get_or_default row k d fresh_drive l) at e in
    (omega (arith, line.place, line_length k (get_or row k fresh_drive)), line.buffer ∙ page_turn row page w k l)

pub returns-in_err-page_refusal-clause-page : goal.returns-in_err-page_refusal-clause-page
returns-in_err-page_refusal-clause-page c =
    let a = c.args in
    let judged = c.in_err-page_refusal.ensures in
    let some = number_some c.in_err-page_refusal.field-0.0 in
    sym (page_refused a.row.now a.page.now (λ e. omega (arith, judged, e, some)))

pub put_drive-at-requires : goal.put_drive-at-requires
put_drive-at-requires c =
    let a = c.args in
    let fit = lines_fit a.row.now a.page.now (known a.row.now a.page.now c.in_ok-page_refusal.ensures) in
    (omega (arith, fit.1), omega (arith, fit.2))

pub loop-number-init : goal.loop-number-init
loop-number-init c = record { place = refl; page = page_start c.args.row.now c.args.page.now }

pub loop-number-preserved : goal.loop-number-preserved
loop-number-preserved c =
    let a = c.args in
    let l = c.loop-number in
    let w = known a.row.now a.page.now c.in_ok-page_refusal.ensures in
    let i = l.invariant in
    let next = next_line a.row.now a.page.now l.number l.at _ l.page _ _ w c.loop-number-test.true i.place i.page c.put_drive-at.ensures in
    record { place = next.0; page = next.1 }

pub returns-clause-page : goal.returns-clause-page
returns-clause-page c =
    let a = c.args in
    let l = c.loop-number in
    let w = known a.row.now a.page.now c.in_ok-page_refusal.ensures in
    l.invariant.page ∙ page_end a.row.now a.page.now w l.number (omega arith)
