mod Absent
mod Outward
