-- `schema::check::kind_at` meets its contract. Assumes nothing.
use mathlib.Core.Path.{sym, ◌∙◌}
use Rattle.std.proofs.Common.{rules}
use native.Mathlib.Omega.{arith}
use Rattle.schema.proofs.Errors.{passed_on}
use Rattle.schema.proofs.Judge.{refuses, passes, no_start, no_head, no_members, a_struct, no_entries, an_enum, no_kind}
use Rattle.schema.proofs.check.kind_at.Goals as goal

pub returns-in_err-within : goal.returns-in_err-within
returns-in_err-within c =
    rw (← passed_on _ c.in_err-within.field-0.0 c.from_residual.ensures.1) (no_start c.args.p.now c.args.at _ (refuses _ _ c.in_err-within.ensures))

pub returns-in_err-within-in-Ok-Structure : goal.returns-in_err-within-in-Ok-Structure
returns-in_err-within-in-Ok-Structure c =
    let a = c.args in
    rw (← passed_on _ c.in_err-within-in-Ok-Structure.field-0.0 c.from_residual-in_err-within-in-Ok-Structure.ensures.1)
    (no_head a.p.now a.at (passes _ c.in_ok-within.ensures) (sym c.read.ensures ∙ search rules) _ (refuses _ _ c.in_err-within-in-Ok-Structure.ensures))

pub returns-in_err-within-in-Ok-Structure-2 : goal.returns-in_err-within-in-Ok-Structure-2
returns-in_err-within-in-Ok-Structure-2 c =
    let a = c.args in
    rw (← passed_on _ c.in_err-within-in-Ok-Structure-2.field-0.0 c.from_residual-in_err-within-in-Ok-Structure-2.ensures.1)
    (no_members a.p.now a.at (passes _ c.in_ok-within.ensures) (sym c.read.ensures ∙ search rules) (passes _ c.in_ok-within-in-Ok-Structure.ensures) c.from-n.result (c.from-n.ensures ∙ c.read-in-Ok-Structure.ensures) _
    (refuses _ _ c.in_err-within-in-Ok-Structure-2.ensures))

pub returns-in_err-within-in-Ok-Enum : goal.returns-in_err-within-in-Ok-Enum
returns-in_err-within-in-Ok-Enum c =
    let a = c.args in
    rw (← passed_on _ c.in_err-within-in-Ok-Enum.field-0.0 c.from_residual-in_err-within-in-Ok-Enum.ensures.1)
    (no_entries a.p.now a.at (passes _ c.in_ok-within.ensures) (sym c.read.ensures ∙ search rules) c.read_number-n.result c.read_number-n.ensures.0 _ (refuses _ _ c.in_err-within-in-Ok-Enum.ensures))

pub returns-in_ok-within-in-Ok-Structure-2 : goal.returns-in_ok-within-in-Ok-Structure-2
returns-in_ok-within-in-Ok-Structure-2 c =
    let a = c.args in
    a_struct a.p.now a.at (passes _ c.in_ok-within.ensures) (sym c.read.ensures ∙ search rules) (passes _ c.in_ok-within-in-Ok-Structure.ensures) c.from-n.result (c.from-n.ensures ∙ c.read-in-Ok-Structure.ensures)
    (passes _ c.in_ok-within-in-Ok-Structure-2.ensures)

pub returns-in_ok-within-in-Ok-Enum : goal.returns-in_ok-within-in-Ok-Enum
returns-in_ok-within-in-Ok-Enum c =
    let a = c.args in
    an_enum a.p.now a.at (passes _ c.in_ok-within.ensures) (sym c.read.ensures ∙ search rules) c.read_number-n.result c.read_number-n.ensures.0 (passes _ c.in_ok-within-in-Ok-Enum.ensures)

pub returns-in-Err : goal.returns-in-Err
returns-in-Err c =
    no_kind c.args.p.now c.args.at (passes _ c.in_ok-within.ensures) (λ e. omega arith) (λ e. omega arith)
