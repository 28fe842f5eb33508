-- In which order a command goes over its image.
-- Own: a check, a salvage, a format and a resize go over it in order; every other command does not.
use Rattle.std.specs.Prelude.{ℕ, List, codes, if◌then◌else◌}
use Rattle.std.specs.Str.{bytes_eq}
use Rattle.progress_line.specs.declared.course.Course.{Course}
use Rattle.progress_line.specs.declared.course.Course.TheVariants as Courses

-- The course of a command, by its first word.
abbrev pub course_of : List ℕ → Course
course_of command =
    if bytes_eq command (codes "check") then Courses.Image
    else if bytes_eq command (codes "salvage") then Courses.Image
    else if bytes_eq command (codes "format") then Courses.Disk
    else if bytes_eq command (codes "resize") then Courses.Disk
    else Courses.Scattered
