-- `math_normal::quotients` meets its contract: the sizes after each turn leave room for the next, and the turns of each argument put together are what lies above it. Assumes nothing.
use lib.Dec.{lit<, lit≤}
use Rattle.math_normal.specs.Turns.{num_fixed, den_fixed}
use Rattle.math_normal.proofs.Turning.{begins, room, goes_on, assembled}
use Rattle.math_normal.proofs.both.quotients.Goals as goal

pub turn_two-s-requires : goal.turn_two-s-requires
turn_two-s-requires c =
    let s0 = begins c.begun.ensures in
    let t0 = begins c.begun-2.ensures in
    (room 0 s0 (num_fixed 1) (den_fixed 2) (lit≤ tt) (lit< tt) (lit≤ tt) (lit< tt), room 0 t0 (num_fixed 1) (den_fixed 2) (lit≤ tt) (lit< tt) (lit≤ tt) (lit< tt))

pub turn_two-s-requires-2 : goal.turn_two-s-requires-2
turn_two-s-requires-2 c =
    let s0 = begins c.begun.ensures in
    let t0 = begins c.begun-2.ensures in
    let s1 = goes_on 0 s0 c.turn_two-s.ensures.first in
    let t1 = goes_on 0 t0 c.turn_two-s.ensures.second in
    (room 1 s1 (num_fixed 2) (den_fixed 3) (lit≤ tt) (lit< tt) (lit≤ tt) (lit< tt), room 1 t1 (num_fixed 2) (den_fixed 3) (lit≤ tt) (lit< tt) (lit≤ tt) (lit< tt))

pub turn_two-s-requires-3 : goal.turn_two-s-requires-3
turn_two-s-requires-3 c =
    let s0 = begins c.begun.ensures in
    let t0 = begins c.begun-2.ensures in
    let s1 = goes_on 0 s0 c.turn_two-s.ensures.first in
    let t1 = goes_on 0 t0 c.turn_two-s.ensures.second in
    let s2 = goes_on 1 s1 c.turn_two-s-2.ensures.first in
    let t2 = goes_on 1 t1 c.turn_two-s-2.ensures.second in
    (room 2 s2 (num_fixed 3) (den_fixed 4) (lit≤ tt) (lit< tt) (lit≤ tt) (lit< tt), room 2 t2 (num_fixed 3) (den_fixed 4) (lit≤ tt) (lit< tt) (lit≤ tt) (lit< tt))

pub turn_two-s-requires-4 : goal.turn_two-s-requires-4
turn_two-s-requires-4 c =
    let s0 = begins c.begun.ensures in
    let t0 = begins c.begun-2.ensures in
    let s1 = goes_on 0 s0 c.turn_two-s.ensures.first in
    let t1 = goes_on 0 t0 c.turn_two-s.ensures.second in
    let s2 = goes_on 1 s1 c.turn_two-s-2.ensures.first in
    let t2 = goes_on 1 t1 c.turn_two-s-2.ensures.second in
    let s3 = goes_on 2 s2 c.turn_two-s-3.ensures.first in
    let t3 = goes_on 2 t2 c.turn_two-s-3.ensures.second in
    (room 3 s3 (num_fixed 4) (den_fixed 5) (lit≤ tt) (lit< tt) (lit≤ tt) (lit< tt), room 3 t3 (num_fixed 4) (den_fixed 5) (lit≤ tt) (lit< tt) (lit≤ tt) (lit< tt))

pub turn_two-s-requires-5 : goal.turn_two-s-requires-5
turn_two-s-requires-5 c =
    let s0 = begins c.begun.ensures in
    let t0 = begins c.begun-2.ensures in
    let s1 = goes_on 0 s0 c.turn_two-s.ensures.first in
    let t1 = goes_on 0 t0 c.turn_two-s.ensures.second in
    let s2 = goes_on 1 s1 c.turn_two-s-2.ensures.first in
    let t2 = goes_on 1 t1 c.turn_two-s-2.ensures.second in
    let s3 = goes_on 2 s2 c.turn_two-s-3.ensures.first in
    let t3 = goes_on 2 t2 c.turn_two-s-3.ensures.second in
    let s4 = goes_on 3 s3 c.turn_two-s-4.ensures.first in
    let t4 = goes_on 3 t3 c.turn_two-s-4.ensures.second in
    (room 4 s4 (num_fixed 5) (den_fixed 6) (lit≤ tt) (lit< tt) (lit≤ tt) (lit< tt), room 4 t4 (num_fixed 5) (den_fixed 6) (lit≤ tt) (lit< tt) (lit≤ tt) (lit< tt))

pub last-requires : goal.last-requires
last-requires c =
    let s0 = begins c.begun.ensures in
    let s1 = goes_on 0 s0 c.turn_two-s.ensures.first in
    let s2 = goes_on 1 s1 c.turn_two-s-2.ensures.first in
    let s3 = goes_on 2 s2 c.turn_two-s-3.ensures.first in
    let s4 = goes_on 3 s3 c.turn_two-s-4.ensures.first in
    let s5 = goes_on 4 s4 c.turn_two-s-5.ensures.first in
    let r = room 5 s5 (num_fixed 6) (den_fixed 7) (lit≤ tt) (lit< tt) (lit≤ tt) (lit< tt) in
    (r.1, r.3)

pub last-requires-2 : goal.last-requires-2
last-requires-2 c =
    let s0 = begins c.begun-2.ensures in
    let s1 = goes_on 0 s0 c.turn_two-s.ensures.second in
    let s2 = goes_on 1 s1 c.turn_two-s-2.ensures.second in
    let s3 = goes_on 2 s2 c.turn_two-s-3.ensures.second in
    let s4 = goes_on 3 s3 c.turn_two-s-4.ensures.second in
    let s5 = goes_on 4 s4 c.turn_two-s-5.ensures.second in
    let r = room 5 s5 (num_fixed 6) (den_fixed 7) (lit≤ tt) (lit< tt) (lit≤ tt) (lit< tt) in
    (r.1, r.3)

pub returns : goal.returns
returns c = (
  assembled c.args.z c.args.a c.reduce.result.r c.last.result c.fixed_of.result c.reduce.result.k c.fixed_of.ensures.1 c.fixed_of.ensures.0 c.requires.4 c.requires.2 c.reduce.ensures.0 c.reduce.ensures.1
      c.begun.ensures c.turn_two-s.ensures.first c.turn_two-s-2.ensures.first c.turn_two-s-3.ensures.first c.turn_two-s-4.ensures.first c.turn_two-s-5.ensures.first c.last.ensures,
  assembled c.args.w c.args.b c.reduce-2.result.r c.last-2.result c.fixed_of-2.result c.reduce-2.result.k c.fixed_of-2.ensures.1 c.fixed_of-2.ensures.0 c.requires.5 c.requires.3 c.reduce-2.ensures.0 c.reduce-2.ensures.1
      c.begun-2.ensures c.turn_two-s.ensures.second c.turn_two-s-2.ensures.second c.turn_two-s-3.ensures.second c.turn_two-s-4.ensures.second c.turn_two-s-5.ensures.second c.last-2.ensures,
)
