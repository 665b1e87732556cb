-- Assumes nothing.
use Rattle.std.proofs.Common.{◌≡◌, arith, sym, ◌∙◌, length, replicate}
use Rattle.floats.specs.Ops.{zero⁺}
use Rattle.groups.specs.Listed.{grouping_of}
use Rattle.job.specs.Groups.{answer_by, output_by, fit_of}
use Rattle.job.proofs.Answers.{does-refuse, does-fit, ended-failing, ended-fitted}
use Rattle.job.proofs.Refusing.{room}
use Rattle.job.proofs.ends.solve.Goals as goal
use Rattle.job.proofs.ends.solve.Goals.{in-Ok, in-Err-all_groups}

pub returns-in-Err : goal.returns-in-Err
returns-in-Err c =
    let a = c.args in
    does-refuse a.b.now a.out.now a.p.now a.q.now a.r.now _ c.refused.result (sym c.verdict.ensures ∙ c.in-Err.is) c.refused.ensures

-- the verdict has seen to it that each area has room
pub returns-in_default-first_chunk_mut : goal.returns-in_default-first_chunk_mut
returns-in_default-first_chunk_mut c =
    let a = c.args in
    let m = room a.b.now (length a.out.now) (length a.p.now) (length a.q.now) (length a.r.now) (sym c.verdict.ensures ∙ c.in_default.is) in
    absurd (omega (arith, m.first, c.in_default-first_chunk_mut.ensures.cases))

pub returns-in_default-first_chunk_mut-2 : goal.returns-in_default-first_chunk_mut-2
returns-in_default-first_chunk_mut-2 c =
    let a = c.args in
    let m = room a.b.now (length a.out.now) (length a.p.now) (length a.q.now) (length a.r.now) (sym c.verdict.ensures ∙ c.in_default.is) in
    absurd (omega (arith, m.second, c.in_default-first_chunk_mut-2.ensures.cases))

pub returns-in_default-first_chunk_mut-3 : goal.returns-in_default-first_chunk_mut-3
returns-in_default-first_chunk_mut-3 c =
    let a = c.args in
    let m = room a.b.now (length a.out.now) (length a.p.now) (length a.q.now) (length a.r.now) (sym c.verdict.ensures ∙ c.in_default.is) in
    absurd (omega (arith, m.third, c.in_default-first_chunk_mut-3.ensures.cases))

pub fitted-a-requires : goal.fitted-a-requires
fitted-a-requires c =
    let a = c.args in
    let m = room a.b.now (length a.out.now) (length a.p.now) (length a.q.now) (length a.r.now) (sym c.verdict.ensures ∙ c.in_default.is) in
    (m.points, m.measures, m.output, c.in-Ok.ensures.freedom)

pub returns : goal.returns
returns c =
    let a = c.args in
    let b = a.b.now in
    let m = c.match-all_groups in
    let gr = c.groups-gr in
    let w = c.all_groups in
    let ended : (m.a ≡ answer_by b (grouping_of b) (fit_of b)) × (m.out ≡ output_by b (grouping_of b) (fit_of b) a.out.now) =
    elim m.branch [
      | in-Ok v ↦ ended-fitted b gr.result c.min.result w.result gr.ensures c.min.ensures w.ensures.groups m.a a.out.now m.out v.in-Ok.d v.in-Ok.is
          (v.a-is ∙ v.fitted-a.ensures.answer) (v.out-is ∙ v.fitted-a.ensures.output)
      | in-Err-all_groups v ↦
          let t = ended-failing b gr.result c.min.result w.result gr.ensures c.min.ensures w.ensures.groups m.a a.out.now v.in-Err-all_groups.e v.in-Err-all_groups.is (v.a-is ∙ v.failed-a.ensures) in
          (t.0, v.out-is ∙ t.1)
    ] in
    let p : c.fill.new.self ≡ replicate 6400 zero⁺ = c.fill.ensures.after (λ y h. h) ∙ rw m.array_long in
    let q : c.fill-2.new.self ≡ replicate 6400 zero⁺ = c.fill-2.ensures.after (λ y h. h) ∙ rw m.array_long2 in
    let r : c.fill-3.new.self ≡ replicate 6400 zero⁺ = c.fill-3.ensures.after (λ y h. h) ∙ rw m.array_long3 in
    does-fit b a.out.now a.p.now a.q.now a.r.now m.out _ _ _ m.a (sym c.verdict.ensures ∙ c.in_default.is) ended.0 ended.1 (rw p) (rw q) (rw r)
