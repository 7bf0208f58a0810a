-- `imports::importing::import_capture` meets its contract.
use Rattle.std.proofs.Common.{refl, sym, ap}
use mathlib.Core.Bool.{and-false}
use Rattle.std.proofs.lemmas.Result.{err_from_is_err_and}
use Rattle.refusals.proofs.Unique.{refused_is_not_done}
use Rattle.captures.specs.Capture.{header_sound, records_of}
use Rattle.captures.proofs.Headers.{sound_long}
use Rattle.import_steps.specs.Taking.{known}
use Rattle.imports.specs.Import.{refused}
use Rattle.imports.proofs.Files.{fresh_start, start_ports, start_number_lem, start_refused, start-declined, read_sound, read_unsound, file_declined, records_answer, cut_record, whole_records_lem}
use Rattle.imports.proofs.importing.import_capture.Goals as goal

pub returns-in_err-start : goal.returns-in_err-start
returns-in_err-start c =
    let a = c.args in
    let is = start_refused a.n a.mode a.i a.j c.in_err-start.field-0.0 c.in_err-start.ensures in
    let why = err_from_is_err_and c.from_residual.result c.from_residual.ensures.1 in
    rw (why.1, why.2) (start-declined _ _ _ _ _ _ _ _ (refused_is_not_done c.in_err-start.field-0.0) is refl)

pub returns-in_err-order : goal.returns-in_err-order
returns-in_err-order c =
    let made = c.in_ok-start.ensures in
    let (unsound, is) = read_unsound _ c.in_err-order.field-0.0 c.in_err-order.ensures in
    let why = err_from_is_err_and c.from_residual-in_err-order.result c.from_residual-in_err-order.ensures.1 in
    rw (why.1, why.2) (file_declined _ _ _ _ _ _ _ (sym (start_number_lem _ _ _ _ _ made)) (rw unsound) (ap refused is))

pub overflow_sub-capture : goal.overflow_sub-capture
overflow_sub-capture c = sound_long _ (read_sound _ _ c.in_ok-order.ensures).sound

pub returns-then-capture-record_len-ne0 : goal.returns-then-capture-record_len-ne0
returns-then-capture-record_len-ne0 c =
    let made = c.in_ok-start.ensures in
    let a = c.args in
    let cut = cut_record a.n _ a.capture.now c.record_len.ensures.0 c.if-capture-record_len-ne0.true in
    file_declined _ _ _ _ _ _ _ (sym (start_number_lem _ _ _ _ _ made)) (rw cut (and-false (header_sound a.capture.now))) refl

pub invariant_of-whole : goal.invariant_of-whole
invariant_of-whole c =
    record { fresh = fresh_start _ _ _ _ _ c.in_ok-start.ensures refl; headed = sound_long _ (read_sound _ _ c.in_ok-order.ensures).sound }

pub returns : goal.returns
returns c =
    let made = c.in_ok-start.ensures in
    let a = c.args in
    let header = read_sound _ _ c.in_ok-order.ensures in
    let ports = start_ports _ _ _ _ _ made in
    let got = c.import.ensures in
    records_answer _ _ _ _ _ _ (known c.in_ok-start.start) _ _ made header.low (ap (λ n. records_of n a.capture.now) ports) refl header.sound (whole_records_lem a.n _ _ c.record_len.ensures.0 c.if-capture-record_len-ne0.false) _ _ got.0 got.1
