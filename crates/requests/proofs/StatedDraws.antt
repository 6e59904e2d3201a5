-- Document 02, A.5, of specs/StatedDraws.antt: what is so of a draw is so of every draw of a list.
use Rattle.std.specs.Prelude.{ℕ, ◌*◌, ◌<◌, get_or}
use Rattle.std.specs.Float.{nan}
use Rattle.draws.specs.Xorshift.{steps_of}
use Rattle.draws.specs.Draws.{sum_of, draws_of}
use Rattle.requests.specs.StatedDraws.{Seed, never_zero, draw_exact, draw_between, never_minus_zero, each_draw, Stated}

pub every_draw : (n i x : ℕ) → Seed x → i < n → Stated (get_or (draws_of n x) i nan) (sum_of 12 (steps_of (12 * i) x))
every_draw n i x s h =
    let y = steps_of (12 * i) x in
    let t = never_zero (12 * i) x s in
    rw (each_draw n i x h) (record {
      exact = (draw_exact y t).1;
      least = (draw_between y t).0;
      most = (draw_between y t).1;
      no_minus_zero = never_minus_zero y t;
    })
