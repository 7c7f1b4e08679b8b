use mathlib.Core.Path.{◌≡◌, refl}
use Prim.Native.Nat.{◌<◌}
use native.Mathlib.Omega.{arith}
use Rattle.std.proofs.Common.{rules, Ok, Err}
use Rattle.answers.specs.declared.Refusal.TheVariants.{Text}
use Rattle.decimals.specs.declared.Wrong.{Wrong}
use Rattle.lines.proofs.GotLaws.{by_result}
use Rattle.text.proofs.SizeLaws.{place_short}
use Rattle.text.proofs.ScanLaws.{scanned_right, scanned_wrong}
use Rattle.text.proofs.ReadLaws.{read_wrong, room_short, room_announced, room_taken}
use Rattle.text.proofs.read.read_text.Goals as goal

pub map_err-requires : goal.map_err-requires
map_err-requires c =
    let short : (x : Wrong) → c.check_text.result ≡ Err x → x.at < 4294967296 =
    λ x e. omega (arith, place_short _ x.at (scanned_wrong _ c.check_text.ensures e)) in
    search (rules, short)

pub returns-in_err-c : goal.returns-in_err-c
returns-in_err-c c =
    by_result c.check_text.result
    (λ h e. absurd (search rules))
    (λ x e.
    let handed : c.from_residual.result ≡ Err (Text x.at) = search rules in
    rw handed (read_wrong (scanned_wrong _ c.check_text.ensures e) refl))

pub returns-in_err-judge_room : goal.returns-in_err-judge_room
returns-in_err-judge_room c =
    let handed : c.from_residual-in_err-judge_room.result ≡ Err c.in_err-judge_room.field-0.0 = search rules in
    let read : c.check_text.result ≡ Ok (c.in_ok-c.c, c.in_ok-c.at) = search rules in
    rw handed
    (room_short (scanned_right _ c.check_text.ensures read) c.judge_room.ensures c.in_err-judge_room.was)

pub fill_rows-requires : goal.fill_rows-requires
fill_rows-requires c =
    let read : c.check_text.result ≡ Ok (c.in_ok-c.c, c.in_ok-c.at) = search rules in
    room_announced (scanned_right _ c.check_text.ensures read) c.judge_room.ensures c.in_ok-judge_room.was

pub returns : goal.returns
returns c =
    let read : c.check_text.result ≡ Ok (c.in_ok-c.c, c.in_ok-c.at) = search rules in
    room_taken (scanned_right _ c.check_text.ensures read) c.judge_room.ensures c.in_ok-judge_room.was
    c.fill_rows.ensures
