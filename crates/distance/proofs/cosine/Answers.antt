use Rattle.std.proofs.Common.{arith, ap, pos, sym, ℕ, ◌≡◌, ◌∙◌, ◌+◌, ◌*◌}
use mir.Facts.{to_z_pos}
use mir.Syntax.{w64}
use Rattle.distance.specs.Distance.{next, t}
use Rattle.distance.proofs.Series.{up_to, up_to_next, first_term, odd_term, even_term, series_is, sum-short}
use Rattle.distance.proofs.cosine.Goals as goal
use Rattle.distance.proofs.cosine.Goals.{After-next_term-term}

-- the two terms of a turn
less : (c : After-next_term-term) → c.next_term-less.result ≡ t c.args.x (2 * c.loop-k.k + 1)
less c = c.next_term-less.ensures.0 ∙ ap (λ (n : ℕ). next n c.args.x ((4 * c.loop-k.k + 1) * (4 * c.loop-k.k + 2))) c.loop-k.invariant.last ∙ odd_term c.args.x c.loop-k.k

more : (c : After-next_term-term) → c.next_term-term.result ≡ t c.args.x (2 * c.loop-k.k + 2)
more c = c.next_term-term.ensures.0 ∙ ap (λ (n : ℕ). next n c.args.x ((4 * c.loop-k.k + 3) * (4 * c.loop-k.k + 4))) (less c) ∙ even_term c.args.x c.loop-k.k

pub loop-k-init : goal.loop-k-init
loop-k-init c = record { last = first_term c.args.x; so_far = first_term c.args.x; falls = omega arith; most = omega arith }

pub loop-k-preserved : goal.loop-k-preserved
loop-k-preserved c =
    let l = c.loop-k in
    let b = (goal.at.loop-k-preserved c).After-next_term-term in
    let e : 2 * (l.k + 1) ≡ 2 * l.k + 2 = omega arith in
    record {
      last = rw e (more b);
      so_far = rw (l.invariant.so_far, less b, more b) (sym (up_to_next c.args.x l.k));
      falls = omega arith;
      most = omega (arith, l.invariant, c.next_term-less.ensures, c.next_term-term.ensures);
    }

pub returns : goal.returns
returns c =
    let l = c.loop-k in
    let h = c.requires in
    let e : l.k ≡ 3 = omega arith in
    to_z_pos w64 (omega (arith, l.invariant.most)) ∙ ap pos (l.invariant.so_far ∙ ap (up_to c.args.x) e) ∙ ap pos (sym (sum-short _ h)) ∙ sym (series_is _ h)
