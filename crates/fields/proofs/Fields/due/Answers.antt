use Rattle.std.proofs.Common.{Err, sym, ap, ◌∙◌, inl, inr}
use Rattle.std.proofs.lemmas.Result.{err_from_is_err_and}
use Rattle.fields.proofs.Taking.{due_other, due_here, due_cut, field_whole, differs, agrees, too_short, cut_off, there}
use Rattle.fields.proofs.Fields.due.Goals as goal

pub returns-then-ne-clause-value : goal.returns-then-ne-clause-value
returns-then-ne-clause-value c = sym (due_other _ _ _ (differs _ _ _ _ _ c.first.ensures.value c.ne.ensures c.if-ne.true))

pub returns-in_default-clause-value : goal.returns-in_default-clause-value
returns-in_default-clause-value c =
    let here = agrees _ _ _ _ _ c.first.ensures.value c.ne.ensures c.if-ne.false in
    ap Err c.in_bundle-cut.ensures ∙ sym (due_cut _ _ _ here.0 here.1 (inl (too_short _ _ c.in_default.len_below)))

pub returns-in_err-content-clause-value : goal.returns-in_err-content-clause-value
returns-in_err-content-clause-value c =
    let here = agrees _ _ _ _ _ c.first.ensures.value c.ne.ensures c.if-ne.false in
    let cut = cut_off _ _ _ _ _ _ _ c.in-len3-up.len_at_least (c.from-len.ensures ∙ c.from_be_bytes.ensures) c.get.ensures.lookup c.ok_or.ensures.value c.in_err-content.was in
    let gone = err_from_is_err_and c.from_residual.result c.from_residual.ensures.1 in
    rw (gone.1, gone.2) (ap Err (cut.1 ∙ c.in_bundle-cut.ensures) ∙ sym (due_cut _ _ _ here.0 here.1 (inr cut.0)))

pub returns-clause-value : goal.returns-clause-value
returns-clause-value c =
    let here = agrees _ _ _ _ _ c.first.ensures.value c.ne.ensures c.if-ne.false in
    let whole = there _ _ _ _ _ _ _ c.in-len3-up.len_at_least (c.from-len.ensures ∙ c.from_be_bytes.ensures) c.get.ensures.lookup c.ok_or.ensures.value c.in_ok-content.was in
    rw (← whole.1) (sym (due_here _ _ _ here.0 here.1 ∙ field_whole _ _ whole.0))
