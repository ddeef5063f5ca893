-- `hash::rage_joaat` meets its contract: the hash is a fold over the bytes, with its end. Assumes nothing.
use Rattle.std.proofs.Common.{rules, ◌≡◌, ℕ, List, [], ◌∷◌, refl, ap, ◌∙◌}
use Rattle.std.specs.List.{fold}
use Rattle.hash.specs.Joaat.{step_of, finish_of, hash_from, joaat}
use Rattle.hash.proofs.rage_joaat.Goals as goal

folded : (h : ℕ) (s : List ℕ) → finish_of (fold step_of h s) ≡ hash_from h s
unfolding hash_from
folded h [] = refl
folded h (b ∷ s) = folded (step_of h b) s

pub returns : goal.returns
unfolding joaat
returns c =
    let e : c.fold.result ≡ fold step_of 0 c.args.s.now = search rules in
    c.finish.ensures ∙ ap finish_of e ∙ folded 0 c.args.s.now
